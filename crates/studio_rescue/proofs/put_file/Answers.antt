-- What stands before the children, what is kept of them, and what stands behind.
use mathlib.Core.Path.{◌≡◌, sym, ap, ◌∙◌}
use Prim.Native.Nat.{ℕ, ◌+◌, ◌-◌, ◌≤◌}
use native.Mathlib.Omega.{arith}
use lib.ListN.{length, take, drop, length-drop}
use lib.Seq.{slice, take-length}
use Rattle.shared_words.proofs.Bytes.{bytes-all}
use Rattle.shared_numbers.proofs.Put.{put_then, put_front}
use Rattle.studio_rules.proofs.Sound.{length-bytes}
use Rattle.studio_rescue_rules.specs.Rescue.{sift}
use Rattle.studio_rescue.proofs.Mending.{kept_or_cut}
use Rattle.studio_rescue.proofs.put_file.Goals as goal

pub overflow_sub-size : goal.overflow_sub-size
overflow_sub-size c =
    let a = c.args in
    let s = a.file.now in
    let g = c.requires in
    let b = bytes-all s (λ i. omega (arith, c.type_inv.file i)) in
    let k = kept_or_cut a.version s (a.at + 6) a.stop b g.ends in
    omega (arith, k, g.lost_is, g.order, g.ends)

pub overflow_sub-stop-2 : goal.overflow_sub-stop-2
overflow_sub-stop-2 c =
    let a = c.args in
    let s = a.file.now in
    let g = c.requires in
    let b = bytes-all s (λ i. omega (arith, c.type_inv.file i)) in
    let k = kept_or_cut a.version s (a.at + 6) a.stop b g.ends in
    omega (arith, k, g.lost_is, g.order)

pub put_front-children-requires : goal.put_front-children-requires
put_front-children-requires c =
    let a = c.args in
    let s = a.file.now in
    let g = c.requires in
    let b = bytes-all s (λ i. omega (arith, c.type_inv.file i)) in
    let k = kept_or_cut a.version s (a.at + 6) a.stop b g.ends in
    let z = g.lost_is in
    let o = g.order in
    let e = g.ends in
    let l = g.short in
    (g.begins, omega arith, omega (arith, g.out_room), omega arith, omega arith)

pub fill-next-requires : goal.fill-next-requires
fill-next-requires c =
    let a = c.args in
    let s = a.file.now in
    let g = c.requires in
    let b = bytes-all s (λ i. omega (arith, c.type_inv.file i)) in
    let k = kept_or_cut a.version s (a.at + 6) a.stop b g.ends in
    let f = c.put_front-children in
    record {
      within = record { begins = omega (arith, g.begins); order = g.order; ends = g.ends; short = g.short; table_is = g.table_is };
      cuts-room = g.cuts-room;
      out_room = omega (arith, f.ensures.ends, k, g.lost_is, g.out_room, g.order, g.ends, f.auto.out);
    }

pub put_part-requires : goal.put_part-requires
put_part-requires c =
    let a = c.args in
    let s = a.file.now in
    let g = c.requires in
    let b = bytes-all s (λ i. omega (arith, c.type_inv.file i)) in
    let k = kept_or_cut a.version s (a.at + 6) a.stop b g.ends in
    let f = c.put_front-children in
    let h = c.fill-next in
    let l = length-bytes (sift a.version (a.at + 6) (slice (a.at + 6) a.stop s)).kept in
    (omega (arith, g.ends), omega (arith, f.ensures.ends, h.ensures.kept-is.ends, l, k, g.lost_is, g.out_room, g.order, g.ends, h.auto.out, f.auto.out))

pub returns : goal.returns
returns c =
    let a = c.args in
    let s = a.file.now in
    let h : 0 ≤ length a.out.now = omega arith in
    let k = c.fill-next.ensures in
    let rest : take (length s - a.stop) (drop a.stop s) ≡ drop a.stop s = ap (λ (n : ℕ). take n (drop a.stop s)) (sym (length-drop a.stop s)) ∙ take-length (drop a.stop s) in
    let p = c.put_part.ensures in
    record { cuts_are = k.cuts_are; out_is = put_front (put_then h (put_then h c.put_front-children.ensures.is k.kept-is) (rw rest at p)) }
