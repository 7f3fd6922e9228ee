-- Demand 3, of the calls. The rules' demand 3 relates the two layouts element by element; the meshes of one number are so
-- related, or there is none in both, and a call about a mesh answers the two alike.
use Rattle.std.specs.Prelude.{Err}
use mathlib.Core.Path.{◌≡◌, refl}
use mathlib.Core.List.{List, []}
use mathlib.Core.Option.{Option, none, some}
use Prim.Native.Nat.{ℕ}
use native.Mathlib.Omega.{arith}
use lib.ListN.{length, get_elem?}
use borrow.Author.Tests.{le-leb, lt-leb}
use Rattle.shared_words.specs.declared.Refusal.{Refusal}
use Rattle.shared_words.specs.declared.Refusal.TheVariants.{NoSuchMesh}
use Rattle.shared_words.specs.Picked.{pick_mesh}
use Rattle.studio_rules.specs.Layout.{figure, bytes}
use Rattle.shared_words.specs.Conditions.{accepted}
use Rattle.studio_rules.specs.Walk.{verdict}
use Rattle.studio_rules.specs.Gives.{list, Mesh, meshes}
use Rattle.studio_rules.specs.Rules.{Parent, file, version, Obeys}
use Rattle.studio_meshes_rules.specs.Standing.{standing}
use Rattle.studio_meshes_rules.specs.Calls.{meshes_call}
use Rattle.studio_rules.specs.Gaps.{Marked, figure_of, without, with, SameMesh}
use Rattle.shared_words.specs.Lists.{Pairwise}
use Rattle.studio_rules.specs.Theorems.{put_in, all_put}
use Rattle.shared_words.specs.Effects.{leaving}
use Rattle.studio_rules.specs.Calls.{counts_of, check_call, list_call, of_mesh, tables_of, tables_call, name_of, name_call, around_of, box_call, parts_call}
use Rattle.studio_rules.proofs.Verdict.{verdict-good}
use Rattle.studio_rules.proofs.Gaps.{record_count-same, obeys-taken}
use Rattle.studio_rules.proofs.Pieces.{none_before, holds-all}
use Rattle.studio_rules.proofs.Theorems.{put_in_or_taken_out}
use Rattle.claim_demands.specs.Demand3.{NameMoved, StandingMoved, SameAnswers, Demand3}
use Rattle.claim_demands.proofs.Related.{Both, both_at, equally_long}
use Rattle.claim_demands.proofs.Standing.{standing-moved}

-- ---- two files, by their layouts

module _ (m : Marked) (s s' : List ℕ) (v : verdict s ≡ accepted (without m)) (v' : verdict s' ≡ accepted (with m)) (p : Parent) (obeys : Obeys p [] (without (figure_of m))) where
  -- a call about a mesh: Q holds of its two answers where it holds of the same refusal, and of meshes that are the same
  of-one-mesh : {A : Type 0} (refuse : Refusal → A) (use-it : Mesh → A) (Q : A → A → Type 0) →
      ((r : Refusal) → Q (refuse r) (refuse r)) →
      ((old new : Mesh) → SameMesh (put_in m) old new → Q (use-it old) (use-it new)) →
      (mesh : ℕ) → Q (of_mesh refuse use-it mesh (verdict s)) (of_mesh refuse use-it mesh (verdict s'))
  of-one-mesh refuse use-it Q same-refusal same-mesh mesh =
      let R = SameMesh (put_in m) in
      let p = (put_in_or_taken_out m).meshes-same in
      rw (v, v', equally_long R (meshes (without m)) (meshes (with m)) p)
      (go (get_elem? (meshes (without m)) mesh) (get_elem? (meshes (with m)) mesh) (both_at R (meshes (without m)) (meshes (with m)) p mesh))
    where
      n : ℕ
      n = length (meshes (without m))

      go : (x y : Option Mesh) → Both (SameMesh (put_in m)) x y → Q (pick_mesh refuse use-it n x) (pick_mesh refuse use-it n y)
      go none none h = same-refusal (NoSuchMesh n)
      go none (some y) h = absurd h
      go (some x) none h = absurd h
      go (some x) (some y) h = same-mesh x y h

  same-answers : SameAnswers (put_in m) (all_put m) s s'
  unfolding check_call list_call tables_call name_call box_call parts_call meshes_call
  same-answers =
      let d = put_in_or_taken_out m in
      let n = record_count-same (figure_of m) in
      let stood : Pairwise (StandingMoved (put_in m)) (standing (without m)) (standing (with m)) =
      standing-moved (put_in m) 0 0 0 0 0 0 p [] (figure_of m) refl (omega (arith, none_before 0 0 0 (figure_of m) (omega arith))) (holds-all (figure_of m)) obeys in
      let many = equally_long (StandingMoved (put_in m)) (standing (without m)) (standing (with m)) stood in
      record {
        counts = counts_of (without m);
        counts' = counts_of (with m);
        accepted = rw v;
        accepted' = rw v';
        records-same = n;
        headers-same = d.headers-same;
        own_same = d.owned-same;
        skipped-grows = d.skipped-grows;
        records = list (without m);
        records' = list (with m);
        moved = d.list-moved;
        list-given = λ e row h. (rw (v, le-leb _ _ h), rw (v', n, le-leb _ _ h));
        list-refused = λ e row h. (rw (v, lt-leb _ _ h), rw (v', n, lt-leb _ _ h));
        meshes = standing (without m);
        meshes' = standing (with m);
        meshes-moved = stood;
        meshes-given = λ e row h. (rw (v, le-leb _ _ h), rw (v', many, le-leb _ _ h));
        meshes-refused = λ e row h. (rw (v, lt-leb _ _ h), rw (v', many, lt-leb _ _ h));
        tables-same = λ t mesh rows.
            of-one-mesh (λ r. leaving (Err r) rows) (tables_of t rows) (λ old new. new ≡ old) (λ r. refl)
            (λ old new h. rw (h.vertices-same, h.corners-same, h.mapping_same, h.vertex-count-same, h.face-count-same, h.pair_count_same)) mesh;
        parts_same = λ e row. rw (v, v', d.parts_same);
        box-same =
            of-one-mesh Err around_of (λ old new. new ≡ old) (λ r. refl) (λ old new h. rw (h.vertex-count-same, h.vertices-same));
        name-moved =
            of-one-mesh Err name_of (NameMoved (put_in m)) (λ r. refl) (λ old new h. (h.name-grows, h.name-length-same));
      }

-- ---- the demand

pub demand3 : Demand3
demand3 = record {
  put_in_lem = λ m s b e gaps l.
      let v = verdict-good s (without m) e in
      same-answers m s (bytes (figure (with m))) v ((put_in_or_taken_out m).put_in_lem s b v gaps l) (file (version (without m))) e.chunks;
  taken_out = λ m s' b e.
      let v = verdict-good s' (with m) e in
      let p = file (version (with m)) in
      same-answers m (bytes (figure (without m))) s' ((put_in_or_taken_out m).taken_out s' b v) v p (obeys-taken p [] (figure_of m) e.chunks);
}
