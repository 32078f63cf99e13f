-- Section 5: the fields of a body in the order in which they are grafted, by the words at which they begin. A walk goes over
-- six places; Gaiji's mencode, word 1, comes before its hint, and Illustration's caption, word 4, before its description.
use Rattle.std.specs.Prelude.{◌≡◌, refl, ℕ, zero, suc, ◌+◌, ◌%◌, cond, List, [], ◌∷◌, ◌++◌, get_or, leb, eqb}
use Rattle.model.specs.Tape.{Field, Field.str, Field.opt_str, Field.content_range, Field.seg_range, field_table}
use Rattle.facts.specs.Truth.{by_bool}
use Rattle.records.specs.Uses.{use_of, use_in, word_use}

-- Section 5. Fields go in the Rust's order: which word comes at place j.
unfoldable pub field_word : ℕ → ℕ → ℕ
field_word kind j =
    cond (eqb kind 3) (cond (eqb j 0) 1 (cond (eqb j 1) 0 j))
    (cond (eqb kind 11) (cond (eqb j 3) 4 (cond (eqb j 4) 3 j)) j)

-- the field that begins at word i, by the word's use
unfoldable pub field_from : ℕ → ℕ → List Field
field_from u i =
    cond (eqb u 1) (str i ∷ []) (cond (eqb u 2) (opt_str i ∷ []) (cond (eqb u 3) (content_range i ∷ []) (cond (eqb u 5) (seg_range i ∷ []) [])))

-- the field at place j
unfoldable pub place_field : ℕ → ℕ → ℕ → List Field
place_field kind tag j = field_from (word_use kind tag (field_word kind j)) (field_word kind j)

-- the fields at the places from j on, n of them
unfoldable pub place_fields : ℕ → ℕ → ℕ → ℕ → List Field
place_fields kind tag zero j = []
place_fields kind tag (suc n) j = place_field kind tag j ++ place_fields kind tag n (j + 1)

pub fields_in_order : (k t : ℕ) → place_fields k t 6 0 ≡ get_or (field_table t) k []
unfolding place_fields place_field field_from field_word word_use use_in use_of field_table
fields_in_order zero t = refl
fields_in_order (suc zero) t = refl
fields_in_order (suc (suc zero)) t = by_bool (leb 2 (t % 4)) (λ e. rw e refl) (λ e. rw e refl)
fields_in_order (suc (suc (suc zero))) t = by_bool (eqb t 2) (λ e. rw e refl) (λ e. rw e refl)
fields_in_order (suc (suc (suc (suc zero)))) t = refl
fields_in_order (suc (suc (suc (suc (suc zero))))) t = refl
fields_in_order (suc (suc (suc (suc (suc (suc zero)))))) t = refl
fields_in_order (suc (suc (suc (suc (suc (suc (suc zero))))))) t = refl
fields_in_order (suc (suc (suc (suc (suc (suc (suc (suc zero)))))))) t = refl
fields_in_order (suc (suc (suc (suc (suc (suc (suc (suc (suc zero))))))))) t = refl
fields_in_order (suc (suc (suc (suc (suc (suc (suc (suc (suc (suc zero)))))))))) t = refl
fields_in_order (suc (suc (suc (suc (suc (suc (suc (suc (suc (suc (suc zero))))))))))) t =
    by_bool (eqb t 1) (λ e. rw e refl) (λ e. rw e (by_bool (eqb t 2) (λ q. rw q refl) (λ q. rw q refl)))
fields_in_order (suc (suc (suc (suc (suc (suc (suc (suc (suc (suc (suc (suc zero)))))))))))) t = refl
fields_in_order (suc (suc (suc (suc (suc (suc (suc (suc (suc (suc (suc (suc (suc zero))))))))))))) t = refl
fields_in_order (suc (suc (suc (suc (suc (suc (suc (suc (suc (suc (suc (suc (suc (suc zero)))))))))))))) t = refl
fields_in_order (suc (suc (suc (suc (suc (suc (suc (suc (suc (suc (suc (suc (suc (suc (suc zero))))))))))))))) t = refl
fields_in_order (suc (suc (suc (suc (suc (suc (suc (suc (suc (suc (suc (suc (suc (suc (suc (suc k)))))))))))))))) t = refl
