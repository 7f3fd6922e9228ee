-- DEMAND 3, of the calls, in one piece: whole chunks of unlisted identifiers put into the gaps of an accepted file, or taken
-- out of them, any number together. What the calls answered of the old file they answer of the new one, but for offsets
-- and lengths, which have moved by the bytes put in.
-- One layout with marked chunks tells both files (studio_rules/specs/Gaps): `without m` is that of the file that has them not,
-- `with m` that of the file that has them; `put_in m` are the chunks as they stand in the file that has them.
use Rattle.studio_rules.specs.declared.Span.{Span}
use Rattle.shared_words.specs.declared.Refusal.{Refusal}
use Rattle.std.specs.Prelude.{◌≡◌, List, ℕ, ◌+◌, ◌≤◌, ◌<◌, length, Result, Ok, Err}
use Rattle.shared_words.specs.Refusals.{limit}
use Rattle.studio_rules.specs.declared.Record.{Record}
use Rattle.shared_words.specs.declared.Refusal.TheVariants.{NoRoom}
use Rattle.studio_rules.specs.declared.Counts.{Counts}
use Rattle.shared_words.specs.Bytes.{Bytes}
use Rattle.studio_rules.specs.OwnData.{count}
use Rattle.studio_rules.specs.Layout.{figure, bytes, child}
use Rattle.studio_rules.specs.Rules.{Meets}
use Rattle.studio_rules.specs.Gaps.{Marked, without, with, InGaps, Piece, before, Moved}
use Rattle.shared_words.specs.Lists.{Pairwise}
use Rattle.studio_rules.specs.Theorems.{put_in, all_put}
use Rattle.shared_words.specs.Encodings.{Encoding}
use Rattle.shared_words.specs.Effects.{leaving, filled}
use Rattle.studio_rules.specs.Gives.{Part}
use Rattle.studio_rules.specs.Calls.{check_call, list_call, Rows, Tables, tables_call, name_call, box_call, parts_call}
use Rattle.studio_meshes_rules.specs.Standing.{Standing, elements_at}
use Rattle.studio_meshes_rules.specs.Calls.{meshes_call}

-- a name keeps its length, and its offset grows like the others; a refusal is the same
abbrev pub NameMoved : List Piece → Result Span Refusal → Result Span Refusal → Type 0
NameMoved ps (Err r) new = new ≡ Err r
NameMoved ps (Ok old) (Err r) = ⊥
NameMoved ps (Ok old) (Ok new) = (new.offset ≡ old.offset + before new.offset ps) × (new.size ≡ old.size)

-- the elements of the child x of a mesh are as many, and their offset grows like the others
pub record ElementsMoved (ps : List Piece) (x : ℕ) (old new : Standing) : Type 0 where
  pub count_same : count (child x new.kids) ≡ count (child x old.kids)
  pub offset_grows : elements_at x new.at new.kids ≡ elements_at x old.at old.kids + before (elements_at x new.at new.kids) ps

-- of the eight numbers of a mesh the offsets have moved, and the others are the same
pub record StandingMoved (ps : List Piece) (old new : Standing) : Type 0 where
  pub name-grows : new.name_at ≡ old.name_at + before new.name_at ps
  pub name-length-same : new.name_length ≡ old.name_length
  pub vertices-moved : ElementsMoved ps 0x4110 old new
  pub faces-moved : ElementsMoved ps 0x4120 old new
  pub pairs-moved : ElementsMoved ps 0x4140 old new

-- s is the file without the chunks ps, of so many bytes in all, and s' the file with them
pub record SameAnswers (ps : List Piece) (all : ℕ) (s s' : List ℕ) : Type 1 where
  -- both are accepted; of the byte counts only the skipped one changes, and it grows by all the bytes put in
  pub counts : Counts
  pub counts' : Counts
  pub accepted : check_call s ≡ Ok counts
  pub accepted' : check_call s' ≡ Ok counts'
  pub records-same : counts'.records ≡ counts.records
  pub headers-same : counts'.headers ≡ counts.headers
  pub own_same : counts'.own ≡ counts.own
  pub skipped-grows : counts'.skipped ≡ counts.skipped + all
  -- the same known chunks in the same order, each moved: with the same room both lists are given, or neither is
  pub records : List Record
  pub records' : List Record
  pub moved : Pairwise (Moved ps) records records'
  pub list-given : {A : Type 0} (e : Encoding Record A) (row : List A) → counts.records ≤ e.room (length row) →
      (list_call e s row ≡ leaving (Ok counts) (filled (e.encode records) row)) ×
      (list_call e s' row ≡ leaving (Ok counts') (filled (e.encode records') row))
  pub list-refused : {A : Type 0} (e : Encoding Record A) (row : List A) → e.room (length row) < counts.records →
      (list_call e s row ≡ leaving (Err (NoRoom counts.records)) row) ×
      (list_call e s' row ≡ leaving (Err (NoRoom counts.records)) row)
  -- every mesh has the same tables bit for bit, the same box, and its name
  pub tables-same : {A B C : Type 0} (t : Tables A B C) (mesh : ℕ) (rows : Rows A B C) →
      tables_call t s' mesh rows ≡ tables_call t s mesh rows
  pub box-same : (mesh : ℕ) → box_call s' mesh ≡ box_call s mesh
  pub name-moved : (mesh : ℕ) → NameMoved ps (name_call s mesh) (name_call s' mesh)
  -- all meshes in one call: as many in the same order, each moved; with the same room both files' are given, or neither's
  pub meshes : List Standing
  pub meshes' : List Standing
  pub meshes-moved : Pairwise (StandingMoved ps) meshes meshes'
  pub meshes-given : {A : Type 0} (e : Encoding Standing A) (row : List A) → length meshes ≤ e.room (length row) →
      (meshes_call e s row ≡ leaving (Ok (length meshes)) (filled (e.encode meshes) row)) ×
      (meshes_call e s' row ≡ leaving (Ok (length meshes)) (filled (e.encode meshes') row))
  pub meshes-refused : {A : Type 0} (e : Encoding Standing A) (row : List A) → e.room (length row) < length meshes →
      (meshes_call e s row ≡ leaving (Err (NoRoom (length meshes))) row) ×
      (meshes_call e s' row ≡ leaving (Err (NoRoom (length meshes))) row)
  -- the same parts hang on the same ones
  pub parts_same : {A : Type 0} (e : Encoding Part A) (row : List A) → parts_call e s' row ≡ parts_call e s row

pub record Demand3 : Type 1 where
  -- chunks put into an accepted file, the result within the length limit
  pub put_in_lem : (m : Marked) (s : List ℕ) → Bytes s → Meets s (without m) → InGaps 0x4D4D m → length (bytes (figure (with m))) ≤ limit →
      SameAnswers (put_in m) (all_put m) s (bytes (figure (with m)))
  -- chunks taken out of an accepted file
  pub taken_out : (m : Marked) (s' : List ℕ) → Bytes s' → Meets s' (with m) →
      SameAnswers (put_in m) (all_put m) (bytes (figure (without m))) s'
