-- One step of the walk by offsets; and what its functions promise.
use Rattle.std.specs.Prelude.{◌≡◌, ℕ, suc, ◌+◌, ◌≤◌, Bool, true, false, ◌&&◌, ◌||◌, Result, Ok, Err, List, [], ◌∷◌, leb, length, drop, get_or}
use Rattle.std.proofs.Math.Option.{Option, none, some}
use Rattle.shared_words.specs.declared.Refusal.{Refusal}
use Rattle.shared_words.specs.declared.Refusal.TheVariants.{Size, Length, Number, Index}
use Rattle.shared_words.specs.Conditions.{broken}
use Rattle.shared_words.specs.Bytes.{negative}
use Rattle.cob_rules.specs.Kinds.{is_end, listed}
use Rattle.cob_rules.specs.Layout.{Chunk, kind, identifier, size_field, size}
use Rattle.cob_rules.specs.Walk.{chunk_conditions}
use Rattle.cob_seen.specs.Tree.{Represents}
use Rattle.cob_chunk.specs.declared.Fault.{Fault}
use Rattle.cob_chunk.specs.Chunks.{chunk_in, judged_of}
use Rattle.cob_step.specs.declared.Step.{Step}

-- the first two conditions: header and stated size are within the file
abbrev pub within : List ℕ → ℕ → Bool
within s at =
    leb 20 (length (drop at s)) && (negative 4 (size_field (chunk_in s at)) || leb (20 + size_field (chunk_in s at)) (length (drop at s)))

-- ---- a body

-- the refusal of a fault, at an offset
abbrev pub refusal_of : ℕ → Fault → Refusal
refusal_of at Fault.Size = Size at
refusal_of at Fault.Length = Length at
refusal_of at Fault.Number = Number at
refusal_of at Fault.Index = Index at

abbrev pub fault_of : ℕ → Result ℕ Fault → Option Refusal
fault_of at (Err fault) = some (refusal_of at fault)
fault_of at (Ok n) = none

-- the chunk at an offset ends at `next`
pub record EndsAt (s : List ℕ) (at next : ℕ) : Type 0 where
  pub is : next ≡ at + size (chunk_in s at)
  pub inside : next ≤ length s
  pub later : at + 20 ≤ next

abbrev pub BodyTold : List ℕ → ℕ → Result ℕ Refusal → Type 0
BodyTold s at (Err q) = fault_of at (judged_of (chunk_in s at)) ≡ some q
BodyTold s at (Ok next) = (fault_of at (judged_of (chunk_in s at)) ≡ none) × EndsAt s at next

pub record BodyIs (s : List ℕ) (at : ℕ) (r : Result ℕ Refusal) : Type 0 where
  pub told : BodyTold s at r

-- ---- a step

-- node 0 of the search tree holds 0, and the nodes after it the identifiers of the chunks seen
abbrev pub Holds : List ℕ → List Chunk → Type 0
Holds ids [] = get_or ids 0 0 ≡ 0
Holds ids (c ∷ seen) = (get_or ids (suc (length seen)) 0 ≡ identifier c) × Holds ids seen

-- the first condition that is broken, after the chunks seen
abbrev pub fault_at : List Chunk → List ℕ → ℕ → Option Refusal
fault_at seen s at = broken (chunk_conditions seen at (length (drop at s)) (chunk_in s at))

-- a good chunk before END, and the tree with it
pub record Goes (seen : List Chunk) (s : List ℕ) (at next : ℕ) (is_listed : Bool) (ids links : List ℕ) : Type 0 where
  pub good : fault_at seen s at ≡ none
  pub not_end : is_end (kind (chunk_in s at)) ≡ false
  pub listed-is : listed (kind (chunk_in s at)) ≡ is_listed
  pub ends : EndsAt s at next
  pub tree : Represents ids links (suc (suc (length seen)))
  pub holds : Holds ids (chunk_in s at ∷ seen)

abbrev pub StepIs : List Chunk → List ℕ → ℕ → Result Step Refusal → List ℕ → List ℕ → Type 0
StepIs seen s at (Err q) ids links = fault_at seen s at ≡ some q
StepIs seen s at (Ok (Step.Last next)) ids links =
    (fault_at seen s at ≡ none) × (is_end (kind (chunk_in s at)) ≡ true) × EndsAt s at next × Represents ids links (suc (length seen)) × Holds ids seen
StepIs seen s at (Ok (Step.Listed next)) ids links = Goes seen s at next true ids links
StepIs seen s at (Ok (Step.Skipped next)) ids links = Goes seen s at next false ids links

-- whatever chunks the tree holds
pub record Steps (s : List ℕ) (at : ℕ) (ids links : List ℕ) (count : ℕ) (r : Result Step Refusal) (ids' links' : List ℕ) : Type 0 where
  pub told : (seen : List Chunk) → suc (length seen) ≡ count → Holds ids seen → StepIs seen s at r ids' links'
