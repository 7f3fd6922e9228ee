-- The strict reading of a file, in Q-12's order of refusals: "the first met in file order, at its chunk or sub-chunk, at one
-- place in this order: 5, 10, 26, 28, 27". (5 is said by Read.)
use Rattle.std.specs.Prelude.{ℕ, ◌+◌, ◌-◌, Bool, false, not, List, [], ◌∷◌, leb, length, take, drop}
use Rattle.std.proofs.Math.Option.{Option, none}
use Rattle.shared_words.specs.declared.Refusal.TheVariants.{TooLong, Form, Length, Order, Material, Combination}
use Rattle.shared_words.specs.Lists.{same}
use Rattle.shared_words.specs.Refusals.{limit}
use Rattle.c4d_rules.specs.Blocks.{Block, chunk_header, material_header, object_header, identifier}
use Rattle.c4d_rules.specs.Kinds.{Kind, Platform, Materials, Objects, Other, kind_of}
use Rattle.c4d_rules.specs.Layout.{plain, subs, Chunk, Layout, file_header}
use Rattle.c4d_rules.specs.Rules.{after_material, Open, is_open, after_object, texture_whole, is_in_place, material_there, combination_holds, Before, start, after}
use Rattle.c4d_rules.specs.Rules.{is_in_order}
use Rattle.shared_words.specs.Conditions.{Condition, must, broken, Answer, refused, accepted, unless}
use Rattle.c4d_rules.specs.Read.{Grammar, walk}

-- ---- MAT4, which stands at `at`

abbrev pub material_conditions : Bool → ℕ → List Condition
material_conditions ended o = must (not ended) (Order o) ∷ []

-- "a missing end, met at the end of its MAT4 or OBJ5, placed at that chunk"
abbrev pub material_grammar : ℕ → Grammar Bool Block
material_grammar at = record {
  header = material_header;
  look = λ ended o b. unless (broken (material_conditions ended o)) (accepted b);
  after = after_material;
  close = λ ended. must ended (Order at) ∷ [];
}

-- ---- OBJ5, which stands at `at`; `last` is the number of MAT_NEXTs of a MAT4 before it

abbrev pub object_conditions : Option ℕ → Open → ℕ → Block → List Condition
object_conditions last held o b =
    must (texture_whole b) (Length o) ∷
    must (is_in_place held b) (Order o) ∷
    must (material_there last b) (Material o) ∷
    must (combination_holds held b) (Combination o) ∷ []

abbrev pub object_grammar : Option ℕ → ℕ → Grammar Open Block
object_grammar last at = record {
  header = object_header;
  look = λ held o b. unless (broken (object_conditions last held o b)) (accepted b);
  after = after_object;
  close = λ held. must (not (is_open held)) (Order at) ∷ [];
}

-- ---- chunks

abbrev pub chunk_conditions : Before → ℕ → Kind → List Condition
chunk_conditions p o k = must (is_in_order p k) (Order o) ∷ []

abbrev pub with_subs : List ℕ → Answer (List Block) → Answer Chunk
with_subs head (refused r) = refused r
with_subs head (accepted bs) = accepted record { head = head; inside = subs bs }

-- the chunk of a kind at o: sub-chunks begin behind its header
abbrev pub look_inside : Before → ℕ → Block → Kind → Answer Chunk
look_inside p o b Platform = accepted record { head = b.head; inside = plain b.body }
look_inside p o b Materials = with_subs b.head (walk (material_grammar o) false (o + 8) b.body)
look_inside p o b Objects = with_subs b.head (walk (object_grammar p.last o) none (o + 8) b.body)
look_inside p o b Other = accepted record { head = b.head; inside = plain b.body }

abbrev pub block_kind : Block → Kind
block_kind b = kind_of (identifier chunk_header b.head)

abbrev pub chunk_grammar : Grammar Before Chunk
chunk_grammar = record {
  header = chunk_header;
  look = λ p o b. unless (broken (chunk_conditions p o (block_kind b))) (look_inside p o b (block_kind b));
  after = after;
  close = λ p. [];
}

-- ---- the file

-- "after 1: 25 FORM, place 0, for a broken header or a size that is not the file's less 8"
abbrev pub file_conditions : List ℕ → List Condition
file_conditions s = must (leb (length s) limit) TooLong ∷ must (same (take 12 s) (file_header (length s - 8))) Form ∷ []

-- THE ANSWER TO A FILE: a refusal, or its layout
unfoldable pub verdict : List ℕ → Answer Layout
verdict s = unless (broken (file_conditions s)) (walk chunk_grammar start 12 (drop 12 s))
