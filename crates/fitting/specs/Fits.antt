-- What is known of an opened book, an edit and an opened reading once their numbers have passed.
use Rattle.std.specs.Prelude.{◌≡◌, List}
use Rattle.model.specs.Bytes.{AreBytes}
use Rattle.model.specs.Offset.{Span}
use Rattle.model.specs.Types.{SourceNode, LexOutput}
use Rattle.model.specs.Refusal.{Checked.accepted}
use Rattle.model.specs.Tape.{records_at, node_codec}
use Rattle.model.specs.Region.{Edit, chosen_region}
use Rattle.model.specs.Merge.{MergeWindow, window_of}
use Rattle.laws.specs.Checks.{WellFormed, Passed}
use Rattle.tape.specs.Accepted.{AcceptedReading}
use Rattle.tape.specs.StringBytes.{book_of}
use Rattle.tape.specs.declared.book.Book.{Book}

-- its nodes, where they stand
abbrev pub nodes_of : Book → List SourceNode
nodes_of b = records_at node_codec b.tape.now b.places.nodes.at b.places.nodes.count

-- the edit passed 8 to 11, and has that region
pub record RegionOf (b : Book) (e : Edit) (r : Span) : Type 0 where
  pub chosen : chosen_region (book_of b) e ≡ accepted r

-- And the reading is one, and passed 12 to 17. The region is the window's own.
pub record Fits (b : Book) (e : Edit) (w : MergeWindow) (r : Book) : Type 0 where
  pub bytes : AreBytes b.tape.now
  pub reading_bytes : AreBytes r.tape.now
  pub reading : AcceptedReading r.tape.now r.bytes.now
  pub region : chosen_region (book_of b) e ≡ accepted w.source
  pub window : w ≡ window_of (book_of b) e (book_of r) w.source
  pub passed : Passed (book_of b) e w.source (book_of r)

pub well_formed : (b : Book) → WellFormed (book_of b)
well_formed b =
    let a = b.held.accepted in
    record { utf8 = a.texts; limits = a.limits; ids = a.ids; levels = a.levels; places = a.places_ok; sizes = a.normalized_length_ok }
