-- What is written reads back: a figure that is ready, and the calls that answered a size.
use Rattle.std.specs.Prelude.{Result, Ok, Err}
use mathlib.Core.Path.{◌≡◌, refl, sym, ap, ◌∙◌, subst}
use Prim.Native.Nat.{ℕ}
use native.Mathlib.Omega.{arith}
use mathlib.Core.List.{List, [], map}
use mathlib.Core.Option.{Option, none, some}
use lib.ListN.{length, take, drop, get_elem?}
use lib.Seq.{take_at}
use Rattle.shared_words.specs.declared.Refusal.{Refusal}
use Rattle.studio_rules.specs.Layout.{figure, bytes, size}
use Rattle.studio_rules.specs.Rules.{version, Meets}
use Rattle.shared_words.specs.Conditions.{broken}
use Rattle.studio_rules.specs.Gives.{Mesh, meshes}
use Rattle.shared_words.proofs.Conditions.{met}
use Rattle.studio_rules.proofs.Verdict.{verdict-good, version-agrees}
use Rattle.studio_write_judge.specs.Judged.{answer_of}
use Rattle.studio_write.specs.Write.{writing}
use Rattle.studio_figure_rules.specs.Given.{Figure}
use Rattle.studio_figure_rules.specs.Built.{layout}
use Rattle.studio_figure_rules.specs.Judged.{size_of, conditions, judged_figure}
use Rattle.studio_figure_rules.specs.Write.{write_figure}
use Rattle.studio_figure_rules.specs.ReadsBack.{meshes_given, first_object, name_in, ReadsBack, WrittenReadsBack}
use Rattle.studio_figure_rules.proofs.Ready.{Ready, ready}
use Rattle.studio_figure_rules.proofs.Lawful.{obeys-figure}
use Rattle.studio_figure_rules.proofs.AreBytes.{figure-bytes}
use Rattle.studio_figure_rules.proofs.Sizes.{figure-size}
use Rattle.studio_figure_rules.proofs.Meshes.{meshes-given, names_stand, objects_stand}
use Rattle.studio_figure_rules.proofs.Chunks.{list-chunks, figure-chunks, figure-known}
use Rattle.studio_figure_rules.proofs.Found.{mesh-found, mesh-none, meshes-count, name-found, tables-found, name-called, name-refused, parts-found}

pub reads-back : (f : Figure) (room : ℕ) → Ready f room → ReadsBack f (bytes (figure (layout f)))
reads-back f room r =
    let s = bytes (figure (layout f)) in
    let z = figure-size f r.objects-ready in
    let l = r.within-limit in
    let m : Meets s (layout f) = record { is = refl; within-limit = omega arith; chunks = obeys-figure (version (layout f)) f r.objects-ready r.materials_ready } in
    let accept = verdict-good s (layout f) m in
    let g = meshes-given f r.objects-ready in
    let names = names_stand s (first_object f) f.objects [] r.objects-ready (objects_stand f) in
    record {
      is = refl;
      size = z;
      is-bytes = figure-bytes f r.objects-ready r.materials_ready;
      meets-rules = m;
      is-accepted = accept;
      chunks_are = list-chunks (layout f) ∙ figure-chunks f;
      none-skipped = figure-known f;
      meshes_are = g;
      names_are = ap (map (name_in s)) g ∙ names;
      tables = λ k o rows h.
          let found = mesh-found (first_object f) f.objects k o h in
          tables-found s (layout f) k accept rows _ (ap (λ (ms : List Mesh). get_elem? ms k) g ∙ found.1);
      name = λ k o h.
          let found = mesh-found (first_object f) f.objects k o h in
          record {
            offset = found.0;
            call = name-called s (layout f) k accept _ (ap (λ (ms : List Mesh). get_elem? ms k) g ∙ found.1);
            there = name-found s (meshes_given (first_object f) f.objects) f.objects k _ o names found.1 h;
          };
      no_more = λ k h.
          let count : length (meshes (layout f)) ≡ length f.objects = ap length g ∙ meshes-count (first_object f) f.objects in
          name-refused s (layout f) k accept (ap (λ (ms : List Mesh). get_elem? ms k) g ∙ mesh-none (first_object f) f.objects k h) ∙ rw count;
      no-version = version-agrees s (layout f) m;
      no-parts = parts-found s (layout f) accept refl;
    }

-- ---- a size was answered

pub answer-size : (n size : ℕ) (o : Option Refusal) → answer_of n o ≡ Ok size → (o ≡ none) × (size ≡ n)
answer-size n size none e = (refl, cc)
answer-size n size (some r) e = let z : ◌≡◌ {A = ℕ} 0 1 = cc in absurd (omega arith)

writing-answer : (file out : List ℕ) (w : Result ℕ Refusal) → (writing file out w).answer ≡ w
writing-answer file out (Err r) = refl
writing-answer file out (Ok size) = refl

writing-front : (file out : List ℕ) (size : ℕ) (w : Result ℕ Refusal) → w ≡ Ok size → length file ≡ size → take size (writing file out w).rows ≡ file
writing-front file out size w e l = rw e (take_at file (drop (length file) out) size l)

pub written-reads-back : WrittenReadsBack
unfolding write_figure judged_figure
written-reads-back f out size b e =
    let file = bytes (figure (layout f)) in
    let j : judged_figure f (length out) ≡ Ok size = sym (writing-answer file out (judged_figure f (length out))) ∙ e in
    let a = answer-size (size_of f) size (broken (conditions f (length out))) j in
    let r = ready f (length out) b (met _ a.0) in
    let l : length file ≡ size = figure-size f r.objects-ready ∙ sym a.1 in
    subst (ReadsBack f) (sym (writing-front file out size (judged_figure f (length out)) j l)) (reads-back f (length out) r)
