-- The record of the chunk at an offset, which ends at `next`.
use Rattle.cob_chunk.proofs.Fields.{letters_in, identifier_in, parent_in}
use Rattle.cob_list.proofs.record_at.Goals as goal

pub returns : goal.returns
returns c = let x = c.args in
    rw (
      letters_in x.file.now x.at,
      identifier_in x.file.now x.at,
      parent_in x.file.now x.at,
      c.long_at.ensures.is,
      c.long_at-2.ensures.is,
      c.long_at-3.ensures.is,
    )
