-- What C is told of 3D Studio figures, and what stands in the slices of those calls that give out a few numbers. Nothing is asked of the file, but for the tables and the rescue that it is bytes. Only the
-- writers can have a place of more than 32 bits, which is told as the largest.
use Rattle.studio_rules.specs.declared.Span.{Span}
use Rattle.studio_rules.specs.declared.Sizes.{Sizes}
use Rattle.studio_rules.specs.declared.Counts.{Counts}
use Rattle.std.specs.Prelude.{◌≡◌, ◌⊎◌, List, [], ◌∷◌, ℕ, ◌/◌, ◌≤◌, ◌<◌, Float, length, Result, Ok, Err}
use Rattle.shared_words.specs.declared.Refusal.{Refusal}
use Rattle.shared_words.specs.declared.Refusal.TheVariants.{NoRoom}
use Rattle.shared_words.specs.Bytes.{Bytes, packed}
use Rattle.shared_words.specs.Effects.{Effect, leaving, filled}
use Rattle.shared_words.specs.Encodings.{Encoding}
use Rattle.studio_rules.specs.declared.Record.{Record}
use Rattle.studio_rules.specs.declared.Boxed.{Boxed}
use Rattle.studio_rules.specs.Gives.{Mesh, Part}
use Rattle.studio_rules.specs.Calls.{check_call, list_call, Rows, Tables, tables_call, name_call, box_call, parts_call}
use Rattle.studio_meshes_rules.specs.Standing.{Standing}
use Rattle.studio_meshes_rules.specs.Calls.{meshes_call}
use Rattle.studio_meshes_rules.specs.Boxes.{nine, boxes_call}
use Rattle.studio_figure_rules.specs.Described.{Flat, write_flat}
use Rattle.studio_write.specs.Write.{write_call}
use Rattle.c_codes.specs.Codes.{records_or, sizes_or, numbers_or, count_or}
use Rattle.c_answers.specs.Given.{counts_given, name_given, box_given}
use Rattle.studio_rescue_rules.specs.declared.Mended.{Mended}
use Rattle.studio_rescue_rules.specs.Rescue.{Cut}
use Rattle.studio_rescue_rules.specs.Call.{Lent, rescue_call}
use Rattle.c_rescue.specs.Codes.{cuts_or}
use Rattle.claim_numbers.specs.Tells.{Proper, Tells, TellsCapped}

-- ---- by the answer of the call

abbrev pub CheckTold : Result Counts Refusal → ℕ → Type 0
CheckTold (Ok c) n = Proper n
CheckTold (Err r) n = Tells r n

abbrev pub TablesTold : Result Sizes Refusal → ℕ → Type 0
TablesTold (Ok sizes) n = Proper n
TablesTold (Err r) n = Tells r n

abbrev pub CountedTold : Result ℕ Refusal → ℕ → Type 0
CountedTold (Ok count) n = Proper n
CountedTold (Err r) n = Tells r n

abbrev pub WriteTold : Result ℕ Refusal → ℕ → Type 0
WriteTold (Ok size) n = Proper n
WriteTold (Err r) n = TellsCapped r n

abbrev pub RescueTold : Result Mended Refusal → ℕ → Type 0
RescueTold (Ok m) n = Proper n
RescueTold (Err r) n = Tells r n

-- ---- by the answer of the call, where numbers go into a slice `out` of its own; e is what C gets, and what then stands in the slice

-- the refusal is told, and the slice is as it was
abbrev pub ToldOn : List ℕ → Refusal → Effect ℕ (List ℕ) → Type 0
ToldOn out r e = Tells r e.answer × (e.rows ≡ out)

-- where there is room, all of the numbers stand in the slice's front and their count is the answer; else 15 is told
abbrev pub GivenOn : List ℕ → List ℕ → Effect ℕ (List ℕ) → Type 0
GivenOn out ns e =
    ((length ns ≤ length out / 4) × (e ≡ leaving (length ns) (filled (packed 4 ns) out))) ⊎
    ((length out / 4 < length ns) × ToldOn out (NoRoom (length ns)) e)

abbrev pub CountsTold : List ℕ → Result Counts Refusal → Effect ℕ (List ℕ) → Type 0
CountsTold out (Ok c) e = GivenOn out (c.headers ∷ c.own ∷ c.skipped ∷ []) e
CountsTold out (Err r) e = ToldOn out r e

abbrev pub NameTold : List ℕ → Result Span Refusal → Effect ℕ (List ℕ) → Type 0
NameTold out (Ok span) e = GivenOn out (span.offset ∷ span.size ∷ []) e
NameTold out (Err r) e = ToldOn out r e

abbrev pub BoxTold : List ℕ → Result Boxed Refusal → Effect ℕ (List ℕ) → Type 0
BoxTold out (Ok b) e = GivenOn out (nine b.around b.centre) e
BoxTold out (Err r) e = ToldOn out r e

-- ---- every call

pub record StudioTold : Type 1 where
  pub check : (s : List ℕ) → CheckTold (check_call s) (records_or (check_call s))
  -- as numbers, as bytes, and as a table of structs beside a row
  pub list : {A : Type 0} (e : Encoding Record A) (s : List ℕ) (row : List A) → CheckTold (list_call e s row).answer (records_or (list_call e s row).answer)
  pub tables : {A B C : Type 0} (t : Tables A B C) (s : List ℕ) → Bytes s → (mesh : ℕ) (rows : Rows A B C) →
      TablesTold (tables_call t s mesh rows).answer (sizes_or (tables_call t s mesh rows).answer)
  pub mapping : {A B C : Type 0} (t : Tables A B C) (s : List ℕ) → Bytes s → (mesh : ℕ) (rows : Rows A B C) →
      TablesTold (tables_call t s mesh rows).answer (numbers_or (tables_call t s mesh rows).answer)
  -- the slices too
  pub counts : (s out : List ℕ) → CountsTold out (check_call s) (counts_given out (check_call s))
  pub name : (s : List ℕ) (mesh : ℕ) (out : List ℕ) → NameTold out (name_call s mesh) (name_given out (name_call s mesh))
  pub box : (s : List ℕ) (mesh : ℕ) (out : List ℕ) → BoxTold out (box_call s mesh) (box_given out (box_call s mesh))
  pub parts : {A : Type 0} (e : Encoding Part A) (s : List ℕ) (row : List A) → CountedTold (parts_call e s row).answer (count_or (parts_call e s row).answer)
  pub meshes : {A : Type 0} (e : Encoding Standing A) (s : List ℕ) (row : List A) →
      CountedTold (meshes_call e s row).answer (count_or (meshes_call e s row).answer)
  pub boxes : {A : Type 0} (e : Encoding Mesh A) (s : List ℕ) (row : List A) →
      CountedTold (boxes_call e s row).answer (count_or (boxes_call e s row).answer)
  pub rescue : {A : Type 0} (e : Encoding Cut A) (s : List ℕ) → Bytes s → (rows : Lent A) →
      RescueTold (rescue_call e s rows).answer (cuts_or (rescue_call e s rows).answer)
  pub write : (name : List ℕ) (vertices : List Float) (corners out : List ℕ) →
      WriteTold (write_call name vertices corners out).answer (count_or (write_call name vertices corners out).answer)
  pub figure : (rows : Flat) (out : List ℕ) → WriteTold (write_flat rows out).answer (count_or (write_flat rows out).answer)
