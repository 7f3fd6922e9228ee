-- What code knows before a chunk of a file, and what its functions promise.
use Rattle.std.specs.Prelude.{◌≡◌, ℕ, ◌+◌, ◌<◌, false, not, Option, Some, None, Result, Ok, Err, List, [], ◌++◌, eqb, length, drop}
use Rattle.shared_words.specs.Conditions.{refused, accepted}
use Rattle.c4d_rules.specs.Blocks.{Block, chunk_header}
use Rattle.c4d_rules.specs.Kinds.{Kind, Platform, Materials, Objects, Other, kind_of}
use Rattle.c4d_rules.specs.Layout.{Chunk, Layout}
use Rattle.c4d_rules.specs.Rules.{Before, start, after}
use Rattle.c4d_rules.specs.Read.{walk}
use Rattle.c4d_rules.specs.Walk.{chunk_grammar}
use Rattle.c4d_rules.specs.Gives.{Object, cinema, objects}
use Rattle.c4d_rules.specs.Calls.{all_materials}
use Rattle.c4d_blocks.specs.Headers.{block_in, Tells}
use Rattle.std.proofs.Math.Option.{Option as Maybe, none, some}
use Rattle.std.specs.Option.{is_some, unwrap_or}
use Rattle.c4d_objects.specs.Notes.{Noted}
use Rattle.shared_words.specs.declared.Refusal.{Refusal}
use Rattle.c4d_objects.specs.declared.Figure.{Figure}
use Rattle.c4d_chunks.specs.declared.State.{State}
use Rattle.c4d_chunks.specs.declared.Listed.{Listed}

abbrev pub kind_of_listed : Listed → Kind
kind_of_listed Listed.Platform = Platform
kind_of_listed Listed.Materials = Materials
kind_of_listed Listed.Objects = Objects

-- none of them is any other
abbrev pub kind_in : Option Listed → Kind
kind_in (Some k) = kind_of_listed k
kind_in None = Other

-- the last material, as the rules have it
abbrev pub last_in : Option ℕ → Maybe ℕ
last_in (Some n) = some n
last_in None = none

abbrev pub SmallLast : Option ℕ → Type 0
SmallLast (Some n) = n < 0x8000_0000
SmallLast None = Unit

-- without an OBJ5 there are no objects
abbrev pub figure_in : State → Figure
figure_in st = unwrap_or st.figure record { objects = 0; textures = 0 }

-- f counts the objects rs and their textures
pub record Counts (f : Figure) (rs : List Object) : Type 0 where
  pub objects_are : f.objects ≡ length rs
  pub textures_are : f.textures ≡ length (all_materials rs)

-- the state is that of the rules, the objects so far are rs, and they have been noted
pub record Known (s : List ℕ) (p : Before) (st : State) (rs : List Object) (notes₀ notes : List ℕ) : Type 0 where
  pub last-is : last_in st.last ≡ p.last
  pub last_small : SmallLast st.last
  pub objects-is : is_some st.figure ≡ p.objects
  pub none_yet : p.objects ≡ false → (rs ≡ []) × (notes ≡ notes₀)
  pub counts : Counts (figure_in st) rs
  pub noted : Noted s rs notes₀ notes

-- ---- one chunk

pub record NextIs (s : List ℕ) (p : Before) (at : ℕ) (b : Block) (rs : List Object) (notes₀ notes : List ℕ) (st : State) : Type 0 where
  pub chunk : Chunk
  pub taken : chunk_grammar.look p at b ≡ accepted chunk
  pub known : Known s (after p chunk) st (rs ++ cinema.gives p at chunk) notes₀ notes

abbrev pub StepIs : List ℕ → Before → ℕ → Block → List Object → List ℕ → List ℕ → Result State Refusal → Type 0
StepIs s p at b rs notes₀ notes (Err r) = chunk_grammar.look p at b ≡ refused r
StepIs s p at b rs notes₀ notes (Ok st) = NextIs s p at b rs notes₀ notes st

-- whatever state of the rules it is; the notes are some before, and others behind
abbrev pub EntersAny : List ℕ → ℕ → ℕ → ℕ → State → List ℕ → List ℕ → Result State Refusal → Type 0
EntersAny s at id end st notes notes' r =
    (len : ℕ) (p : Before) (rs : List Object) (notes₀ : List ℕ) → end ≡ at + (8 + len) → Tells chunk_header s at (length s) id len →
    p.any ≡ not (eqb at 12) → Known s p st rs notes₀ notes → StepIs s p at (block_in chunk_header s at (length s)) rs notes₀ notes' r

abbrev pub Enters : Kind → List ℕ → ℕ → ℕ → State → List ℕ → List ℕ → Result State Refusal → Type 0
Enters k s at end st notes notes' r = (id : ℕ) → kind_of id ≡ k → EntersAny s at id end st notes notes' r

-- ---- all chunks

pub record Accepts (s notes₀ notes : List ℕ) (f : Figure) : Type 0 where
  pub layout : Layout
  pub walked : walk chunk_grammar start 12 (drop 12 s) ≡ accepted layout
  pub counts : Counts f (objects layout)
  pub noted : Noted s (objects layout) notes₀ notes

abbrev pub Walks : List ℕ → List ℕ → List ℕ → Result Figure Refusal → Type 0
Walks s notes₀ notes (Err r) = walk chunk_grammar start 12 (drop 12 s) ≡ refused r
Walks s notes₀ notes (Ok f) = Accepts s notes₀ notes f
