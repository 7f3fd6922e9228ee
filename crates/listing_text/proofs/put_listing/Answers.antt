-- A refused file has one line; an accepted one has the line of its counts, and then one for each record in the row.
use mathlib.Core.Path.{refl, sym, ◌∙◌}
use native.Mathlib.Omega.{arith}
use Rattle.shared_numbers.proofs.Put.{put_then}
use Rattle.listing_text.proofs.Whole.{refused-shown, accepted-shown}
use Rattle.listing_text.proofs.put_listing.Goals as goal

pub put_chunks-requires : goal.put_chunks-requires
put_chunks-requires c =
    let list = c.list.ensures in
    let shown = accepted-shown _ refl c.args.file.now _ c.in-Ok.counts (sym list.answer ∙ c.in-Ok.is) list.filled in
    (omega arith, omega arith)

pub returns-in-Err-clause-text : goal.returns-in-Err-clause-text
returns-in-Err-clause-text c =
    rw (refused-shown _ refl c.args.file.now c.in-Err.r (sym c.list.ensures.answer ∙ c.in-Err.is)) c.put_refusal.ensures.text

pub returns-in-Ok : goal.returns-in-Ok
returns-in-Ok c =
    let list = c.list.ensures in
    let shown = accepted-shown _ refl c.args.file.now _ c.in-Ok.counts (sym list.answer ∙ c.in-Ok.is) list.filled in record {
      text = rw shown.is (put_then (omega arith) c.put_counts-first.ensures.text c.put_chunks.ensures.text);
      within = omega arith;
    }
