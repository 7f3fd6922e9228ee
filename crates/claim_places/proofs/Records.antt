-- The records of a layout that stands in a file point at its chunks.
use Rattle.shared_words.specs.declared.Refusal.{Refusal}
use Rattle.std.specs.Prelude.{Result, Ok}
use mathlib.Core.Path.{◌≡◌, sym, ap, subst, ◌∙◌}
use mathlib.Core.List.{List, [], ◌++◌, append-nil}
use Prim.Native.Nat.{ℕ, suc, ◌+◌}
use native.Mathlib.Omega.{arith}
use lib.ListN.{length, take, drop, length-drop, length-append}
use lib.Seq.{take_at}
use Rattle.shared_words.specs.Bytes.{Bytes}
use Rattle.shared_words.specs.Effects.{Effect}
use Rattle.shared_words.specs.Encodings.{plain_row}
use Rattle.shared_words.specs.Lists.{All}
use Rattle.shared_words.proofs.Lists.{all_append}
use Rattle.studio_rules.specs.declared.Record.{Record}
use Rattle.studio_rules.specs.declared.Counts.{Counts}
use Rattle.studio_rules.specs.Layout.{Run, end, skip, known, figure, size, bytes}
use Rattle.studio_rules.specs.Gives.{record_count, records_of, list}
use Rattle.studio_rules.specs.Rules.{Meets}
use Rattle.studio_rules.specs.Calls.{counts_of, list_call}
use Rattle.studio_rules.proofs.Jumps.{length-records}
use Rattle.studio_rules.proofs.Sound.{length-bytes}
use Rattle.studio_figure_rules.proofs.Stands.{Stands, skip-stands, kids_stand, rest-stands}
use Rattle.claim_demands.proofs.Demand2.{demand2}
use Rattle.claim_places.specs.Records.{PointsAtChunk, RecordsPoint}

records-point : (s : List ℕ) (at depth parent next : ℕ) (t : Run) (more : List ℕ) → Stands s at t more → All (PointsAtChunk s) (records_of at depth parent next t)
records-point s at depth parent next end more h = tt
records-point s at depth parent next (skip id body rest) more h =
    records-point s (at + (6 + length body)) depth parent next rest more (skip-stands s at id body rest more h)
records-point s at depth parent next (known id own kids rest) more h =
    let n = ap length h in
    let inner = records-point s (at + (6 + length own)) (suc depth) next (suc next) kids (bytes rest ++ more) (kids_stand s at id own kids rest more h) in
    let outer = records-point s (at + (6 + length own + size kids)) depth parent (suc (next + record_count kids)) rest more (rest-stands s at id own kids rest more h) in (
      record {
        header-there = ap (take 6) h;
        in_file_lem = omega (arith, length-drop at s, length-append (bytes (known id own kids rest)) more, length-bytes (known id own kids rest));
        own_in_chunk = omega arith;
      },
      all_append (PointsAtChunk s) (records_of (at + (6 + length own)) (suc depth) next (suc next) kids) _ inner outer,
    )

pub all-point : (kids : Run) → All (PointsAtChunk (bytes (figure kids))) (list kids)
all-point kids = records-point (bytes (figure kids)) 0 0 0 0 (figure kids) [] (sym (append-nil (bytes (figure kids))))

-- what the call leaves in a table is the list
pub listed-is : (s : List ℕ) → Bytes s → (table : List Record) (counts : Counts) → (list_call plain_row s table).answer ≡ Ok counts →
    (kids : Run) × Meets s kids × (counts ≡ counts_of kids) × (take counts.records (list_call plain_row s table).rows ≡ list kids)
listed-is s b table counts h =
    let d = (demand2.listed plain_row s b table counts).0 h in
    let kids : Run = d.0 in
    let n : counts.records ≡ length (list kids) = ap (λ (c : Counts). c.records) d.2 ∙ sym (length-records 0 0 0 0 (figure kids)) in (
      kids,
      d.1,
      d.2,
      ap (λ (e : Effect (Result Counts Refusal) (List Record)). take counts.records e.rows) ((demand2.given s kids d.1).list-is plain_row table d.3) ∙
          take_at (list kids) (drop (length (list kids)) table) counts.records (sym n),
    )

pub records-of-call : RecordsPoint
records-of-call s b table counts h =
    let l = listed-is s b table counts h in
    subst (All (PointsAtChunk s)) (sym l.3) (subst (λ (x : List ℕ). All (PointsAtChunk x) (list l.0)) l.1.is (all-point l.0))
