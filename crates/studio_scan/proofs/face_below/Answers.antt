-- The largest of the three corners is below the limit just where each is.
use mathlib.Core.Path.{ap, ◌∙◌}
use Prim.Native.Nat.{ℕ, max, ◌%◌}
use lib.Dec.{ltb}
use Rattle.studio_scan.proofs.Lists.{face-is}
use Rattle.studio_scan.proofs.face_below.Goals as goal

pub returns : goal.returns
returns c =
    let cd = c.before.before.before in
    let ab = cd.before in
    let a = ab.args in
    ap (λ (x : ℕ). ltb x a.limit) (c.larger-2.ensures ∙ ap (λ (x : ℕ). max x (cd.load_long-c.result % 65536)) c.larger.ensures) ∙
    face-is a.s.now a.at a.limit _ _ _ ab.load_long-ab.ensures.low ab.load_long-ab.ensures.high cd.load_long-c.ensures.low
