-- Each turn stores one record more of those that the list has left in the row.
use Rattle.studio_rules.specs.declared.Counts.{Counts}
use Rattle.shared_words.specs.declared.Refusal.{Refusal}
use Rattle.std.specs.Prelude.{Result}
use mathlib.Core.Path.{◌≡◌, refl, ap, ◌∙◌}
use mathlib.Core.List.{List}
use Prim.Native.Nat.{ℕ, ◌<◌}
use native.Mathlib.Omega.{arith}
use lib.ListN.{length, set, length-set}
use Rattle.shared_words.specs.Effects.{Effect}
use Rattle.studio_rules.specs.declared.Record.{Record}
use Rattle.studio_list_table.proofs.Outcome.{outcome, one_more, all_there}
use Rattle.studio_list_table.proofs.list_records.Goals as goal

pub loop-i-init : goal.loop-i-init
loop-i-init c =
    let o = outcome {table = c.args.table.now} c.args.file.now c.list_beside-listed.ensures in
    record { fits = omega (arith, c.records_in-n.ensures, o.counted, o.table_fits); stands = λ p. refl }

pub record_at-requires : goal.record_at-requires
record_at-requires c =
    let o = outcome {table = c.args.table.now} c.args.file.now c.list_beside-listed.ensures in
    omega (arith, c.records_in-n.ensures, o.counted, o.row_fits, c.list_beside-listed.auto.row)

pub loop-i-preserved : goal.loop-i-preserved
loop-i-preserved c =
    let i = c.loop-i in
    record {
      fits = omega (arith, length-set i.table i.i c.record_at.result);
      stands = λ p.
          let h : i.i < length p.records = omega (arith, c.records_in-n.ensures, p.counted) in
          ap (λ (zs : List Record). set zs i.i c.record_at.result) (i.invariant.stands p) ∙ rw c.record_at.ensures (one_more p i.i h);
    }

pub returns : goal.returns
returns c =
    let o = outcome {table = c.args.table.now} c.args.file.now c.list_beside-listed.ensures in
    let i = c.loop-i in
    let e : i.i ≡ length o.records = omega (arith, c.records_in-n.ensures, o.counted) in
    record {
      answer = o.answers;
      table = i.invariant.stands o ∙ rw e (all_there o);
      row = ap (λ (x : Effect (Result Counts Refusal) (List ℕ)). x.rows) c.list_beside-listed.ensures;
    }
