-- Each test answers one condition of the header.
use native.Mathlib.Omega.{arith}
use mathlib.Core.Path.{refl}
use Rattle.studio_head.proofs.Opens.{header-stray, header-short, header-overrun, header_fine}
use Rattle.studio_rescue_sift.proofs.Spans.{ends-with-all, ends-by-length}
use Rattle.studio_rescue_sift.proofs.end_of.Goals as goal

pub returns-then-end-at-lt6 : goal.returns-then-end-at-lt6
returns-then-end-at-lt6 c =
    let x = c in
    let s = x.args.file.now in record { is = ends-with-all s x.args.at x.args.end x.requires.0 x.requires.1 _ (header-stray s x.args.at x.args.end x.requires.0 x.requires.1 (omega arith)); within = omega arith }

pub returns-then-len-lt6 : goal.returns-then-len-lt6
returns-then-len-lt6 c =
    let x = c in
    let s = x.args.file.now in
    let w = c.long_at-len in record { is = ends-with-all s x.args.at x.args.end x.requires.0 x.requires.1 _ (header-short s x.args.at x.args.end x.requires.0 x.requires.1 (omega arith) w.result w.ensures.is (omega arith)); within = omega arith }

pub returns-then-end-at : goal.returns-then-end-at
returns-then-end-at c =
    let x = c in
    let s = x.args.file.now in
    let w = c.long_at-len in record { is = ends-with-all s x.args.at x.args.end x.requires.0 x.requires.1 _ (header-overrun s x.args.at x.args.end x.requires.0 x.requires.1 (omega arith) w.result w.ensures.is (omega arith) (omega arith)); within = omega arith }

pub returns : goal.returns
returns c =
    let x = c in
    let s = x.args.file.now in
    let w = c.long_at-len in record { is = ends-by-length s x.args.at x.args.end x.requires.0 x.requires.1 _ _ (omega arith) (header_fine s x.args.at x.args.end x.requires.0 x.requires.1 (omega arith) w.result w.ensures.is (omega arith) (omega arith) _ refl); within = omega arith }
