-- DEMAND 1 of docs/DEMANDS.md, of the calls. "Any file, of any length, is either accepted or refused with one number and
-- one place from the table … The caller need check nothing first. A refusal leaves every lent table and buffer untouched."
-- Nothing is asked of the file, the number of the mesh, the rows or what stands in them.
use Rattle.std.specs.Prelude.{◌≡◌, ◌⊎◌, List, ℕ, Float, Result, Ok, Err}
use Rattle.studio_rules.specs.declared.Record.{Record}
use Rattle.shared_words.specs.declared.Refusal.{Refusal}
use Rattle.studio_rules.specs.declared.Boxed.{Boxed}
use Rattle.studio_rules.specs.declared.Corner.{Corner}
use Rattle.studio_rules.specs.declared.BoundingBox.{BoundingBox}
use Rattle.shared_words.specs.Refusals.{Code, code_of, Numbered}
use Rattle.shared_words.specs.Encodings.{Encoding}
use Rattle.shared_words.specs.Effects.{Effect}
use Rattle.studio_rules.specs.Gives.{Mesh, Part}
use Rattle.studio_rules.specs.Calls.{check_call, list_call, Rows, Tables, tables_call, name_call, box_call, parts_call, box_answer}
use Rattle.studio_meshes_rules.specs.Standing.{Standing}
use Rattle.studio_meshes_rules.specs.Calls.{meshes_call}
use Rattle.studio_meshes_rules.specs.Boxes.{boxes_call}
use Rattle.studio_rescue_rules.specs.declared.Mended.{Mended}
use Rattle.studio_rescue_rules.specs.Rescue.{Cut}
use Rattle.studio_rescue_rules.specs.Call.{Lent, rescue_call, mended_answer}
use Rattle.studio_write.specs.Write.{write_call}
use Rattle.studio_figure_rules.specs.Described.{Flat, write_flat}
use Rattle.slip_sums.specs.declared.Sum.{Sum}
use Rattle.slip_sums.specs.Passes.{sums_call, match_of}
use Rattle.slip_rules.specs.declared.Numbers.{Numbers}
use Rattle.slip_rules.specs.Calls.{Given, slip_read_call, slip_write_call}
use Rattle.stick_rules.specs.Records.{judge_call}
use Rattle.cob_rules.specs.declared.Record.{Record as CobRecord}
use Rattle.cob_rules.specs.Calls.{check_call as cob_check_call, list_call as cob_list_call, sizes_call, Rows as CobRows, tables_call as cob_tables_call}
use Rattle.cob_meshes_rules.specs.Standing.{Standing as CobStanding}
use Rattle.cob_meshes_rules.specs.Calls.{meshes_call as cob_meshes_call}
use Rattle.c4d_rules.specs.Gives.{Object}
use Rattle.c4d_rules.specs.Calls.{two_rows, c4d_check_call, c4d_list_call}

-- A REFUSAL WITH ONE NUMBER AND ONE PLACE: the answer is a refusal, c is its number and place, and the answer has no other;
-- the number is of the table
pub record RefusedWith {A : Type 0} (refuse : Refusal → A) (answer : A) (c : Code) : Type 0 where
  pub refusal : Refusal
  pub is : answer ≡ refuse refusal
  pub number_and_place : c ≡ code_of refusal
  pub no_other : (r : Refusal) → answer ≡ refuse r → code_of r ≡ c
  pub of-table : Numbered refusal c.number

-- an answer is accepted, or refused with one number and one place
abbrev pub Answered : {X A : Type 0} → (X → A) → (Refusal → A) → A → Type 0
Answered {X} accept refuse answer = ((x : X) × (answer ≡ accept x)) ⊎ ((c : Code) × RefusedWith refuse answer c)

-- and where it is refused, what was lent is as it was
abbrev pub AnsweredOn : {X A R : Type 0} → (X → A) → (Refusal → A) → R → Effect A R → Type 0
AnsweredOn {X} accept refuse lent e =
    ((x : X) × (e.answer ≡ accept x)) ⊎ ((c : Code) × RefusedWith refuse e.answer c × (e.rows ≡ lent))

-- a box and its centre, as one
abbrev pub around : BoundingBox × Corner → Result Boxed Refusal
around b = box_answer b.0 b.1

-- how many cuts and how many bytes, as one
abbrev pub mended : ℕ × ℕ → Result Mended Refusal
mended x = mended_answer x.0 x.1

-- nothing is wrong with a stick
abbrev pub good : Unit {0} → Result Unit Refusal
good u = Ok tt

-- a file passes against its entry
abbrev pub passes : Unit {0} → Result Unit Refusal
passes u = Ok tt

pub record Demand1 : Type 1 where
  pub check : (s : List ℕ) → Answered Ok Err (check_call s)
  pub list : {A : Type 0} (e : Encoding Record A) (s : List ℕ) (row : List A) →
      AnsweredOn Ok Err row (list_call e s row)
  pub tables : {A B C : Type 0} (t : Tables A B C) (s : List ℕ) (mesh : ℕ) (rows : Rows A B C) →
      AnsweredOn Ok Err rows (tables_call t s mesh rows)
  pub parts : {A : Type 0} (e : Encoding Part A) (s : List ℕ) (row : List A) →
      AnsweredOn Ok Err row (parts_call e s row)
  pub meshes : {A : Type 0} (e : Encoding Standing A) (s : List ℕ) (row : List A) →
      AnsweredOn Ok Err row (meshes_call e s row)
  pub boxes : {A : Type 0} (e : Encoding Mesh A) (s : List ℕ) (row : List A) →
      AnsweredOn Ok Err row (boxes_call e s row)
  pub name : (s : List ℕ) (mesh : ℕ) → Answered Ok Err (name_call s mesh)
  pub box : (s : List ℕ) (mesh : ℕ) → Answered around Err (box_call s mesh)
  pub rescue : {A : Type 0} (e : Encoding Cut A) (s : List ℕ) (rows : Lent A) → AnsweredOn mended Err rows (rescue_call e s rows)
  pub write : (name : List ℕ) (vertices : List Float) (corners out : List ℕ) →
      AnsweredOn Ok Err out (write_call name vertices corners out)
  pub figure : (rows : Flat) (out : List ℕ) → AnsweredOn Ok Err out (write_flat rows out)
  -- slips: the sums of a file, sums against an entry, a slip read and written
  pub sums : (s : List ℕ) → Answered Ok Err (sums_call s)
  pub matches : (a : Sum) (l first second : ℕ) → Answered passes Err (match_of a l first second)
  pub slip-read : (e : Encoding Numbers ℕ) (s row : List ℕ) → AnsweredOn Ok Err row (slip_read_call e s row)
  pub slip-write : (names : List ℕ) (given : Given) (out : List ℕ) → AnsweredOn Ok Err out (slip_write_call names given out)
  -- a stick against its slip. (The evidence for a file: SticksTold of crate claim_numbers.)
  pub stick_judge : (slip names items : List ℕ) → Answered good Err (judge_call slip names items)
  -- Caligari files
  pub cob_check : (s : List ℕ) → Answered Ok Err (cob_check_call s)
  pub cob_list : (e : Encoding CobRecord ℕ) (s row : List ℕ) → AnsweredOn Ok Err row (cob_list_call e s row)
  pub cob_sizes : (e : Encoding ℕ ℕ) (s : List ℕ) (mesh : ℕ) (row : List ℕ) →
      AnsweredOn Ok Err row (sizes_call e s mesh row)
  pub cob_tables : (e : Encoding ℕ ℕ) (s : List ℕ) (mesh : ℕ) (rows : CobRows) →
      AnsweredOn Ok Err rows (cob_tables_call e s mesh rows)
  pub cob_meshes : (e : Encoding CobStanding ℕ) (s row : List ℕ) → AnsweredOn Ok Err row (cob_meshes_call e s row)
  -- Cinema 4D files
  pub c4d_check : (s : List ℕ) → Answered Ok Err (c4d_check_call s)
  pub c4d_list : {A B : Type 0} (e : Encoding Object A) (m : Encoding ℕ B) (s : List ℕ) (objects : List A) (materials : List B) →
      AnsweredOn Ok Err (two_rows objects materials) (c4d_list_call e m s objects materials)
