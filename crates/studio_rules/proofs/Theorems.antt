-- The counts add; chunks put in or taken out do no harm. (That a file is accepted exactly
-- when it meets the rules, and has one layout, is in Verdict.)
use mathlib.Core.Path.{◌≡◌, refl, sym, ap, ◌∙◌}
use Prim.Native.Nat.{◌+◌}
use native.Mathlib.Omega.{arith}
use mathlib.Core.List.{[]}
use lib.ListN.{length}
use Rattle.shared_words.specs.Bytes.{value}
use Rattle.studio_rules.specs.Layout.{Run, end, skip, known, figure, size, bytes}
use Rattle.studio_rules.specs.Rules.{file, version}
use Rattle.studio_rules.specs.Gives.{headers, owned, skipped, parts_from}
use Rattle.studio_rules.specs.Gaps.{Marked, figure_of, without, with}
use Rattle.studio_rules.specs.Theorems.{CountsAdd, PutInOrTakenOut, put_in}
use Rattle.studio_rules.proofs.Sound.{length-bytes}
use Rattle.studio_rules.proofs.Verdict.{accepted_exactly, verdict-good, length-figure}
use Rattle.studio_rules.proofs.Gaps.{size-grows, child-same, fathers-same, headers-same, owned-same, skipped-grows, obeys-put, obeys-taken}
use Rattle.studio_rules.proofs.Pieces.{holds-all, none_before, all-within}
use Rattle.studio_rules.proofs.Moved.{records-moved, meshes-same}

-- ---- the counts

-- each byte of a layout is counted once
pub counted-once : (t : Run) → headers t + owned t + skipped t ≡ size t
counted-once end = refl
counted-once (skip id body rest) = omega (arith, counted-once rest)
counted-once (known id own kids rest) = omega (arith, counted-once kids, counted-once rest)

pub counts-add : CountsAdd
counts-add s kids m = counted-once (figure kids) ∙ sym (length-bytes (figure kids)) ∙ ap length m.is

-- ---- chunks put in or taken out

pub put_in_or_taken_out : (m : Marked) → PutInOrTakenOut m
put_in_or_taken_out m =
    let g = size-grows m in
    let n = length-figure (with m) in
    let v : version (with m) ≡ version (without m) = ap value (child-same 0x0002 m) in
    record {
      put_in_lem = λ s b e gaps l.
          let h = (accepted_exactly s b (without m)).0 e in
          verdict-good (bytes (figure (with m))) (with m) record { is = refl; within-limit = l; chunks = rw v (obeys-put (file (version (without m))) [] (figure_of m) (gaps, tt) h.chunks) };
      taken_out = λ s b e.
          let h = (accepted_exactly s b (with m)).0 e in
          let i = ap length h.is in
          let l = h.within-limit in
          verdict-good (bytes (figure (without m))) (without m)
          record { is = refl; within-limit = omega (arith, length-figure (without m)); chunks = rw (← v) (obeys-taken (file (version (with m))) [] (figure_of m) h.chunks) };
      list-moved = records-moved (put_in m) 0 0 0 0 0 0 (figure_of m) refl (holds-all (figure_of m));
      headers-same = headers-same (figure_of m);
      owned-same = owned-same (figure_of m);
      skipped-grows =
          let a = all-within 0 (length (bytes (figure (with m)))) 0 (figure_of m) (omega arith) (omega arith) in
          skipped-grows (figure_of m) ∙ omega arith;
      parts_same = ap (parts_from []) (fathers-same m);
      meshes-same = meshes-same (put_in m) 0 0 0 0 0 0 (figure_of m) refl (omega (arith, none_before 0 0 0 (figure_of m) (omega arith))) (holds-all (figure_of m));
    }
