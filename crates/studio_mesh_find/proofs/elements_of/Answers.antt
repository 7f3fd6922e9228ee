-- The first chunk of the identifier, or none.
use native.Mathlib.Omega.{arith}
use Rattle.studio_mesh_find.proofs.Parts.{word_first, counts-first, counts-nowhere, begins-first, begins-nowhere}
use Rattle.studio_mesh_find.proofs.elements_of.Goals as goal

pub word_at-requires : goal.word_at-requires
word_at-requires c =
    let x = c in
    let k = x.requires.1 in
    let r = x.requires.2 in
    let w = word_first x.args.id k.0 k.1 r.0 r.1 x.args.file.now x.args.at x.args.stop r.2 c.next_child-o.result (c.next_child-o.ensures r.0 r.1 r.2) c.if-o-stop.true in
    omega arith

pub returns-then-o-stop : goal.returns-then-o-stop
returns-then-o-stop c =
    let x = c in
    let o = c.next_child-o in record {
      are = λ p t k e h. counts-first x.args.id k e p t x.args.file.now x.args.at x.args.stop h o.result (o.ensures p t h) c.if-o-stop.true c.word_at.result c.word_at.ensures.is;
      begin = λ p t h. begins-first x.args.id x.requires.1.0 x.requires.1.1 p t x.args.file.now x.args.at x.args.stop h o.result (o.ensures p t h) c.if-o-stop.true;
    }

pub returns : goal.returns
returns c =
    let x = c in
    let o = c.next_child-o in record {
      are = λ p t k e h. counts-nowhere x.args.id k e p t x.args.file.now x.args.at x.args.stop h o.result (o.ensures p t h) c.if-o-stop.false;
      begin = λ p t h. begins-nowhere x.args.id x.requires.1.0 x.requires.1.1 p t x.args.file.now x.args.at x.args.stop h o.result (o.ensures p t h) c.if-o-stop.false;
    }
