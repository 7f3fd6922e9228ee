-- Every refusal has a number of the table.
use mathlib.Core.Path.{◌≡◌, refl, sym, ap, subst}
use mathlib.Core.Bool.{true, ◌&&◌}
use lib.Dec.{leb}
use borrow.Author.Tests.{leb-true}
use Rattle.shared_words.specs.declared.Refusal.{Refusal}
use Rattle.shared_words.specs.declared.Refusal.TheVariants.{TooLong, NotAFigure, Trailing, Short, Overrun, Stray, Misplaced, Twice, Name, Length, Number, Index, Count, Missing, NoRoom, NoSuchMesh, Empty}
use Rattle.shared_words.specs.declared.Refusal.TheVariants.{Slip, Differs, Header, Owner, Size, Father, Text, Form, Order, Combination, Material, SameName, NoMaterial}
use Rattle.shared_words.specs.declared.Refusal.TheVariants.{Unchecked, BadFigure, Unexpected, Absent, Incomplete, NoFigure, Changed}
use Rattle.shared_words.specs.Refusals.{number_of, place_of, Numbered}
use Rattle.shared_words.proofs.Bools.{and_parts}

in_table : (r : Refusal) → (leb 1 (number_of r) && leb (number_of r) 37) ≡ true
in_table TooLong = refl
in_table NotAFigure = refl
in_table (Trailing place) = refl
in_table (Short place) = refl
in_table (Overrun place) = refl
in_table (Stray place) = refl
in_table (Misplaced place) = refl
in_table (Twice place) = refl
in_table (Name place) = refl
in_table (Length place) = refl
in_table (Number place) = refl
in_table (Index place) = refl
in_table (Count place) = refl
in_table (Missing place) = refl
in_table (NoRoom place) = refl
in_table (NoSuchMesh place) = refl
in_table Empty = refl
in_table (Slip place) = refl
in_table (Differs place) = refl
in_table Header = refl
in_table (Owner place) = refl
in_table (Size place) = refl
in_table (Father place) = refl
in_table (Text place) = refl
in_table Form = refl
in_table (Order place) = refl
in_table (Combination place) = refl
in_table (Material place) = refl
in_table (SameName place) = refl
in_table (NoMaterial place) = refl
in_table (Unchecked place) = refl
in_table (BadFigure place) = refl
in_table (Unexpected place) = refl
in_table (Absent place) = refl
in_table Incomplete = refl
in_table NoFigure = refl
in_table (Changed place) = refl

pub numbered : (r : Refusal) → Numbered r (number_of r)
numbered r = let h = and_parts (leb 1 (number_of r)) (leb (number_of r) 37) (in_table r) in record { is = refl; from = leb-true _ _ h.0; to = leb-true _ _ h.1 }

-- by what a refusal is
pub numbered-at : {r q : Refusal} → r ≡ q → Numbered r (number_of q)
numbered-at {r} e = subst (λ (x : Refusal). Numbered r (number_of x)) e (numbered r)

pub place_at : {r q : Refusal} → r ≡ q → place_of q ≡ place_of r
place_at e = sym (ap place_of e)
