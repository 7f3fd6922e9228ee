-- Both have the same room, so the list goes into both or into neither.
use Rattle.std.specs.Prelude.{Result, Ok, Err}
use mathlib.Core.Path.{◌≡◌, refl, ◌∙◌}
use mathlib.Core.Bool.{Bool, true, false, cond}
use mathlib.Core.List.{List}
use Prim.Native.Nat.{ℕ, ◌/◌, min}
use native.Mathlib.Omega.{arith}
use lib.Dec.{leb}
use lib.ListN.{length}
use Rattle.shared_words.specs.declared.Refusal.{Refusal}
use Rattle.shared_words.specs.declared.Refusal.TheVariants.{NoRoom}
use Rattle.shared_words.specs.Conditions.{Answer, refused, accepted}
use Rattle.shared_words.specs.Effects.{leaving}
use Rattle.shared_words.specs.Encodings.{Encoding, beside, plain_row}
use Rattle.studio_rules.specs.declared.Record.{Record}
use Rattle.studio_rules.specs.declared.Counts.{Counts}
use Rattle.studio_rules.specs.Layout.{Run, figure}
use Rattle.studio_rules.specs.Gives.{record_numbers, record_count}
use Rattle.studio_rules.specs.Walk.{verdict}
use Rattle.studio_rules.specs.Encodings.{flat_records}
use Rattle.studio_rules.specs.Calls.{list_of, list_call}
use Rattle.studio_list_table.specs.Together.{TableAndRow}

-- two lists with the same room answer the same
same-room : {A B : Type 0} (e : Encoding Record A) (f : Encoding Record B) (row : List A) (other : List B) → e.room (length row) ≡ f.room (length other) →
    (a : Answer Run) → (list_of e row a).answer ≡ (list_of f other a).answer
same-room e f row other h (refused r) = refl
same-room {A} {B} e f row other h (accepted kids) = rw h (go (leb (record_count (figure kids)) (f.room (length other))) _ _ _ _ _ _)
  where
    go : (b : Bool) (x y : Result Counts Refusal) (p q : List A) (p' q' : List B) → (cond b (leaving x p) (leaving y q)).answer ≡ (cond b (leaving x p') (leaving y q')).answer
    go true x y p q p' q' = refl
    go false x y p q p' q' = refl

-- a refusal leaves the row
untouched : {A : Type 0} (e : Encoding Record A) (row : List A) (a : Answer Run) (r : Refusal) → (list_of e row a).answer ≡ Err r → (list_of e row a).rows ≡ row
untouched e row (refused q) r h = refl
untouched {A} e row (accepted kids) r h = go (leb (record_count (figure kids)) (e.room (length row))) _ _ _ h
  where
    go : (b : Bool) (c : Counts) (new : List A) (n : ℕ) → (cond b (leaving (Ok c) new) (leaving (Err (NoRoom n)) row)).answer ≡ Err r →
        (cond b (leaving (Ok c) new) (leaving (Err (NoRoom n)) row)).rows ≡ row
    go true c new n k = let z : ◌≡◌ {A = ℕ} 0 1 = cc in absurd (omega arith)
    go false c new n k = refl

pub table-and-row : TableAndRow
unfolding list_call
table-and-row file row table =
    let m : min (length table) (length row / record_numbers) ≡ min (length row / record_numbers) (length table) = omega arith in
    let t : Encoding Record Record = beside (length row / record_numbers) plain_row in
    let f : Encoding Record ℕ = beside (length table) flat_records in
    let same = same-room f t row table m (verdict file) in
    record {
      same_answer = same;
      table-untouched = λ r h. untouched t table (verdict file) r h;
      row-untouched = λ r h. untouched f row (verdict file) r (same ∙ h);
    }
