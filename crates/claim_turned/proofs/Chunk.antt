-- The chunk of record number i of an accepted file: where its length field stands, and the file with another value there.
use mathlib.Core.Path.{◌≡◌, refl, sym, ap, ◌∙◌}
use Prim.Native.Nat.{ℕ, ◌+◌, ◌≤◌}
use native.Mathlib.Omega.{arith}
use mathlib.Core.List.{List, ◌++◌}
use mathlib.Core.Option.{some}
use lib.ListN.{length, get_elem?}
use Rattle.studio_rules.specs.declared.Record.{Record}
use Rattle.shared_words.specs.Bytes.{Bytes}
use Rattle.studio_rules.specs.Layout.{Run, known, figure, header, size, bytes, with_length}
use Rattle.studio_rules.specs.Rules.{Meets}
use Rattle.shared_words.specs.Conditions.{accepted}
use Rattle.studio_rules.specs.Walk.{verdict}
use Rattle.studio_rules.specs.Gives.{list}
use Rattle.studio_rules.proofs.At.{in_range}
use Rattle.studio_rules.proofs.Jumps.{length-records}
use Rattle.studio_rules.proofs.Verdict.{accepted_exactly}
use Rattle.claim_turned.proofs.Context.{fill, bytes-plug}
use Rattle.claim_turned.proofs.Field.{offset_in, offset_within, field_fill}
use Rattle.claim_turned.proofs.Number.{Found, find}
use Rattle.claim_turned.proofs.Exchange.{same-chunk}
use Rattle.claim_turned.proofs.Around.{Listed, listed-first, listed-plug}

module _ (s : List ℕ) (kids : Run) (i : ℕ) (r : Record) (are_bytes : Bytes s) (reads : verdict s ≡ accepted kids) (in_List : get_elem? (list kids) i ≡ some r) where
  pub meets : Meets s kids
  meets = (accepted_exactly s are_bytes kids).0 reads

  pub found : Found i (figure kids)
  found = find i (figure kids) (omega (arith, in_range (list kids) i r in_List, length-records 0 0 0 0 (figure kids)))

  -- the run that begins with the chunk, and what follows the chunk's header
  abbrev pub chunk : Run
  chunk = known found.id found.own found.kids found.rest

  abbrev pub body : List ℕ
  body = found.own ++ (bytes found.kids ++ bytes found.rest)

  abbrev pub len : ℕ
  len = 6 + length found.own + size found.kids

  -- its record
  stands : Listed len len i (offset_in found.context) 0 0 0 0 (figure kids) (figure kids)
  stands =
      let l = listed-plug found.context chunk chunk len len refl refl
      (listed-first found.id found.own found.kids found.rest found.kids found.rest len (same-chunk found.id found.own found.kids found.rest) refl) 0 0 0 0 in
      rw (found.is, found.number) at l

  record_is : stands.r ≡ r
  record_is = let h = stands.changed.0 in cc

  pub offset_is : r.offset ≡ offset_in found.context
  offset_is = ap (λ (x : Record). x.offset) (sym record_is) ∙ stands.at ∙ omega arith

  pub len_is : r.len ≡ len
  len_is = ap (λ (x : Record). x.len) (sym record_is) ∙ stands.long

  -- the file, around that chunk
  file-is : s ≡ fill found.context (header found.id len ++ body)
  file-is = sym meets.is ∙ ap bytes (sym found.is) ∙ bytes-plug found.context chunk

  -- THE FILE WITH n IN THE LENGTH FIELD
  pub with-length : (n : ℕ) → with_length r.offset n s ≡ fill found.context (header found.id n ++ body)
  with-length n = ap (λ (o : ℕ). with_length o n s) offset_is ∙ ap (with_length (offset_in found.context) n) file-is ∙ field_fill found.context found.id len n body

  -- with the length that is there the file is the same
  pub old-length : with_length r.offset r.len s ≡ s
  old-length = ap (λ (m : ℕ). with_length r.offset m s) len_is ∙ with-length len ∙ sym file-is

  pub field-within : r.offset + 6 ≤ length s
  field-within = omega (arith, offset_is, ap length file-is, offset_within found.context (header found.id len ++ body))
