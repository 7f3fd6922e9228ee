-- The end of the search for x, and the node put there.
use Prim.Native.Nat.{ℕ, ◌+◌, ◌*◌}
use lib.ListN.{set}
use mathlib.Core.Bool.{not, true≢false, false≢true}
use mathlib.Core.Path.{refl, sym, ap, subst}
use native.Mathlib.Omega.{arith}
use Rattle.std.specs.Option.{is_some}
use Rattle.cob_seen.specs.Tree.{Represents}
use Rattle.cob_seen.proofs.Search.{there, nowhere, grows}
use Rattle.cob_seen.proofs.add.Goals as goal

pub returns-then-ids-at : goal.returns-then-ids-at
returns-then-ids-at c = let a = c.args in record {
  answer = ap (λ p. not (is_some p)) (sym (there a.ids.now a.links.now c.descend-spot.ensures c.if-ids-at.true));
  new = λ e. absurd (false≢true e);
  old = λ e. (refl, refl);
}

pub returns : goal.returns
returns c =
    let s = c in
    let a = s.args in
    let d = c.descend-spot in
    let n = c.if-ids-at.false in
    record {
      answer = ap (λ p. not (is_some p)) (sym (nowhere a.ids.now a.links.now d.ensures n));
      new = λ e. (
        refl,
        subst (λ (b : ℕ). Represents (set a.ids.now a.count a.x) (set a.links.now (2 * d.result.at + b) a.count) (a.count + 1))
            (sym c.wide.ensures) (grows a.ids.now a.links.now d.ensures n s.requires.tree (omega arith) (omega arith)),
      );
      old = λ e. absurd (true≢false e);
    }
