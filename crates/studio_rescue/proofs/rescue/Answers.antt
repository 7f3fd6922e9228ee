-- What is beyond it stays refused; the rest is put where there is room.
use mathlib.Core.Path.{◌≡◌, sym, ap, ◌∙◌}
use Prim.Native.Nat.{ℕ, ◌+◌, ◌-◌, ◌≤◌}
use native.Mathlib.Omega.{arith}
use lib.ListN.{length}
use Rattle.shared_words.specs.Effects.{Effect}
use Rattle.shared_words.proofs.Bytes.{bytes-all}
use Rattle.studio_rescue_rules.specs.declared.Mended.{Mended}
use Rattle.studio_rescue_rules.specs.Rescue.{mended}
use Rattle.studio_rescue_rules.specs.Call.{Lent}
use Rattle.studio_rescue_sift.specs.declared.Cuts.{Cuts}
use Rattle.studio_rescue.proofs.Mending.{outside-beyond, outside-scene, places, count-is, lost-is, lost-within, rescue-is, new-length, rows_are, call-beyond, few-cuts, few_bytes, both-filled}
use Rattle.std.proofs.lemmas.Result.{err_from_is_err_and}
use Rattle.studio_rescue.proofs.rescue.Goals as goal
use Rattle.std.specs.Prelude.{Result}
use Rattle.shared_words.specs.declared.Refusal.{Refusal}

abbrev answer : Effect (Result Mended Refusal) (Lent ℕ) → Result Mended Refusal
answer e = e.answer

abbrev left : Effect (Result Mended Refusal) (Lent ℕ) → Lent ℕ
left e = e.rows

pub overflow_add-scene : goal.overflow_add-scene
overflow_add-scene c =
    let a = c.args in
    let s = a.file.now in
    let b = bytes-all s (λ i. omega (arith, c.type_inv.file i)) in
    let at = c.in_ok-scene.scene.at in
    let stop = c.in_ok-scene.scene.stop in
    let f = outside-scene s at stop c.in_ok-scene.ensures in
    let p = places s b at stop f in
    omega (arith, p.1, p.2, p.3)

pub count-lost-requires : goal.count-lost-requires
count-lost-requires c =
    let a = c.args in
    let s = a.file.now in
    let b = bytes-all s (λ i. omega (arith, c.type_inv.file i)) in
    let at = c.in_ok-scene.scene.at in
    let stop = c.in_ok-scene.scene.stop in
    let f = outside-scene s at stop c.in_ok-scene.ensures in
    let p = places s b at stop f in
    record { begins = omega (arith, p.0); order = p.1; ends = p.2; short = p.3; table_is = c.slots-slots.ensures }

pub returns-then-cuts-lost : goal.returns-then-cuts-lost
returns-then-cuts-lost c =
    let a = c.args in
    let s = a.file.now in
    let b = bytes-all s (λ i. omega (arith, c.type_inv.file i)) in
    let at = c.in_ok-scene.scene.at in
    let stop = c.in_ok-scene.scene.stop in
    let f = outside-scene s at stop c.in_ok-scene.ensures in
    let v = c.version-version in
    let r = c.count-lost.result in
    let l = lost-is s b at stop f v.result v.ensures r c.count-lost.ensures in
    let q = few-cuts s a.cuts.now a.out.now _ _ (rescue-is s b at stop f) r.count (length s - r.gone) (count-is s b at stop f v.result v.ensures r c.count-lost.ensures) (new-length s b at stop f r.gone l) c.if-cuts-lost.true in
    record { answer = sym (ap answer q); rows = sym (ap left q) }

pub overflow_sub-size : goal.overflow_sub-size
overflow_sub-size c =
    let a = c.args in
    let s = a.file.now in
    let b = bytes-all s (λ i. omega (arith, c.type_inv.file i)) in
    let at = c.in_ok-scene.scene.at in
    let stop = c.in_ok-scene.scene.stop in
    let f = outside-scene s at stop c.in_ok-scene.ensures in
    let v = c.version-version in
    let r = c.count-lost.result in
    let l = lost-is s b at stop f v.result v.ensures r c.count-lost.ensures in
    lost-within s b at stop f r.gone l

pub returns-then-out-size : goal.returns-then-out-size
returns-then-out-size c =
    let a = c.args in
    let s = a.file.now in
    let b = bytes-all s (λ i. omega (arith, c.type_inv.file i)) in
    let at = c.in_ok-scene.scene.at in
    let stop = c.in_ok-scene.scene.stop in
    let f = outside-scene s at stop c.in_ok-scene.ensures in
    let v = c.version-version in
    let r = c.count-lost.result in
    let l = lost-is s b at stop f v.result v.ensures r c.count-lost.ensures in
    let q = few_bytes s a.cuts.now a.out.now _ _ (rescue-is s b at stop f) r.count (length s - r.gone) (count-is s b at stop f v.result v.ensures r c.count-lost.ensures) (new-length s b at stop f r.gone l) c.if-cuts-lost.false c.if-out-size.true in
    record { answer = sym (ap answer q); rows = sym (ap left q) }

pub put_file-requires : goal.put_file-requires
put_file-requires c =
    let a = c.args in
    let s = a.file.now in
    let b = bytes-all s (λ i. omega (arith, c.type_inv.file i)) in
    let at = c.in_ok-scene.scene.at in
    let stop = c.in_ok-scene.scene.stop in
    let f = outside-scene s at stop c.in_ok-scene.ensures in
    let p = places s b at stop f in
    let v = c.version-version in
    let r = c.count-lost.result in
    let l = lost-is s b at stop f v.result v.ensures r c.count-lost.ensures in
    let n = ap (λ (z : Cuts). z.count) c.count-lost.ensures in
    let w = lost-within s b at stop f r.gone l in
    record {
      begins = p.0;
      order = p.1;
      ends = p.2;
      short = p.3;
      table_is = c.slots-slots.ensures;
      lost_is = ap (λ (z : Cuts). z.gone) c.count-lost.ensures;
      cuts-room = omega (arith, n, c.if-cuts-lost.false);
      out_room = omega (arith, c.if-out-size.false);
    }

pub returns-in_err-scene : goal.returns-in_err-scene
returns-in_err-scene c =
    let a = c.args in
    let e = outside-beyond a.file.now (mended a.file.now) _ c.in_err-scene.ensures in
    let q = call-beyond a.file.now a.cuts.now a.out.now _ e in
    let y = err_from_is_err_and c.from_residual.result c.from_residual.ensures.1 in
    rw (y.1, y.2) record { answer = sym (ap answer q); rows = sym (ap left q) }

pub returns : goal.returns
returns c =
    let a = c.args in
    let s = a.file.now in
    let b = bytes-all s (λ i. omega (arith, c.type_inv.file i)) in
    let at = c.in_ok-scene.scene.at in
    let stop = c.in_ok-scene.scene.stop in
    let f = outside-scene s at stop c.in_ok-scene.ensures in
    let v = c.version-version in
    let r = c.count-lost.result in
    let l = lost-is s b at stop f v.result v.ensures r c.count-lost.ensures in
    let q = both-filled s a.cuts.now a.out.now _ _ (rescue-is s b at stop f) r.count (length s - r.gone) (count-is s b at stop f v.result v.ensures r c.count-lost.ensures) (new-length s b at stop f r.gone l) c.if-cuts-lost.false c.if-out-size.false in
    let p = c.put_file.ensures in
    record { answer = sym (ap answer q); rows = rows_are s b at stop f r.gone l a.cuts.now _ a.out.now _ (rw v.ensures at p) ∙ sym (ap left q) }
