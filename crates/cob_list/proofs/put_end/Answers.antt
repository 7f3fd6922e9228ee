-- Puts the record of END, which is the rest of the file: it has zeros.
use Rattle.cob_chunk.proofs.Fields.{letters_in}
use Rattle.cob_list.proofs.put_end.Goals as goal

pub returns : goal.returns
returns c = let x = c.args in record { is = rw (letters_in x.file.now x.at, ← c.long_at.ensures.is) c.put_record.ensures.is }
