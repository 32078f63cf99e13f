-- What a line holds, how much more it may hold, and a text put behind it.
use Rattle.std.specs.Prelude.{◌≡◌, refl, ℕ, ◌+◌, ◌-◌, ◌≤◌, List, [], ◌++◌, length, take}
use Rattle.std.proofs.Common.{sym, ap, ◌∙◌, arith, append_assoc, append-nil}
use Rattle.lines.specs.declared.Line.{Line}

unfoldable pub written : Line → List ℕ
written l = take l.len l.out.now

abbrev pub room : Line → ℕ
room l = length l.out.now - l.len

-- `text`, of at most n bytes, was put behind what l holds
pub record Put (l l' : Line) (n : ℕ) (text : List ℕ) : Type 0 where
  pub holds : written l' ≡ written l ++ text
  pub longer : l'.len ≤ l.len + n
  pub as_large : length l'.out.now ≡ length l.out.now

-- one text behind another
pub put_both : {l l' l'' : Line} {m n : ℕ} {s t : List ℕ} → Put l l' m s → Put l' l'' n t → Put l l'' (m + n) (s ++ t)
put_both {l} {s = s} {t = t} p q =
    record {
      holds = q.holds ∙ ap (λ (x : List ℕ). x ++ t) p.holds ∙ append_assoc (written l) s t;
      longer = omega (arith, p.longer, q.longer);
      as_large = q.as_large ∙ p.as_large;
    }

-- of another length, in other words
pub put_as : {l l' : Line} {m n : ℕ} {s t : List ℕ} → Put l l' m s → m ≤ n → s ≡ t → Put l l' n t
put_as {l} p h e =
    record {
      holds = p.holds ∙ ap (λ (x : List ℕ). written l ++ x) e;
      longer = omega (arith, p.longer, h);
      as_large = p.as_large;
    }

pub put_none : {l : Line} → Put l l 0 []
put_none {l} = record { holds = sym (append-nil (written l)); longer = omega arith; as_large = refl }
