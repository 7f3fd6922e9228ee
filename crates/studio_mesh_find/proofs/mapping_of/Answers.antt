-- The 4140, or none.
use native.Mathlib.Omega.{arith}
use Rattle.studio_mesh_find.proofs.Parts.{all_listed, word_first, mapping_first, mapping_nowhere, begins-first, begins-nowhere}
use Rattle.studio_rules.proofs.Rows.{pairs-counted}
use Rattle.studio_mesh_find.proofs.mapping_of.Goals as goal

pub next_child-o-requires : goal.next_child-o-requires
next_child-o-requires c = (all_listed.5, c.requires)

pub word_at-requires : goal.word_at-requires
word_at-requires c =
    let x = c in
    let r = x.requires in
    let w = word_first 0x4140 8 pairs-counted r.0 r.1 x.args.file.now x.args.at x.args.stop r.2 c.next_child-o.result (c.next_child-o.ensures r.0 r.1 r.2) c.if-o-stop.true in
    omega arith

pub returns-then-o-stop : goal.returns-then-o-stop
returns-then-o-stop c =
    let x = c in
    let o = c.next_child-o in record {
      is = λ p t n h. mapping_first p t x.args.file.now x.args.at x.args.stop h o.result (o.ensures p t h) c.if-o-stop.true c.word_at.result c.word_at.ensures.is x.args.n n;
      begins = λ p t h. begins-first 0x4140 8 pairs-counted p t x.args.file.now x.args.at x.args.stop h o.result (o.ensures p t h) c.if-o-stop.true;
    }

pub returns : goal.returns
returns c =
    let x = c in
    let o = c.next_child-o in record {
      is = λ p t n h. mapping_nowhere p t x.args.file.now x.args.at x.args.stop h o.result (o.ensures p t h) c.if-o-stop.false;
      begins = λ p t h. begins-nowhere 0x4140 8 pairs-counted p t x.args.file.now x.args.at x.args.stop h o.result (o.ensures p t h) c.if-o-stop.false;
    }
