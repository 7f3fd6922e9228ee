-- `studio_figure_chunks::put_group` meets its contract: the header, the name, the count, then the face numbers.
use mathlib.Core.Path.{sym, subst}
use Prim.Native.Nat.{ℕ}
use native.Mathlib.Omega.{arith}
use mathlib.Core.List.{List, [], ◌∷◌}
use lib.ListN.{length-append}
use Rattle.shared_words.proofs.Bytes.{length-packed}
use Rattle.shared_numbers.specs.Put.{Put}
use Rattle.shared_numbers.proofs.Put.{put_then}
use Rattle.studio_figure_chunks.specs.Chunks.{group_of}
use Rattle.studio_figure_chunks.proofs.Chunks.{over-le, group-bytes}
use Rattle.studio_figure_chunks.proofs.put_group.Goals as goal

pub put_word-first-requires : goal.put_word-first-requires
put_word-first-requires c = omega (arith, length-append c.args.name.now (0 ∷ []))

pub put_numbers-requires : goal.put_numbers-requires
put_numbers-requires c = rw (over-le 2 c.args.faces.now) (omega (arith, length-append c.args.name.now (0 ∷ []), length-packed 2 c.args.faces.now))

pub returns : goal.returns
returns c =
    let a = c.args in
    let l = length-append a.name.now (0 ∷ []) in
    let p = c.put_numbers in
    subst (λ (new : List ℕ). Put a.out.now a.at new p.new.out p.result) (sym (group-bytes (group_of a.name.now a.faces.now)))
    (rw (← over-le 2 a.faces.now) (put_then (omega arith) c.put_header-label.ensures (put_then (omega arith) c.put_name-count.ensures (put_then (omega arith) c.put_word-first.ensures p.ensures))))
