-- `studio_figure_bytes::put_object` meets its contract: the lists, the groups, then the smoothing words.
use mathlib.Core.Path.{◌≡◌, ap, ◌∙◌, subst}
use Prim.Native.Nat.{ℕ, ◌+◌, ◌-◌, ◌≤◌}
use native.Mathlib.Omega.{arith}
use mathlib.Core.List.{List}
use lib.ListN.{length}
use Rattle.shared_numbers.specs.Put.{Put}
use Rattle.shared_numbers.proofs.Put.{put_then}
use Rattle.studio_figure_rows.specs.Rows.{part}
use Rattle.studio_figure_objects.specs.Sizes.{size_of_words, group_bytes}
use Rattle.studio_figure_bytes.proofs.Objects.{pieces_of, pieces-same, groups_length, pieces_room, words_small, labels_small}
use Rattle.studio_figure_bytes.proofs.put_object.Goals as goal

pub put_lists-lists-requires : goal.put_lists-lists-requires
put_lists-lists-requires c =
    let k = pieces_of _ _ _ _ _ _ _ _ _ _ _ _ c.requires.at.0 c.requires.at.1 c.requires.at.2 c.object_size-size.ensures.0 in
    record { vertices_len = (k.whole, k.few-vertices, k.finite, k.few-corners); corners_bound = (omega (arith, k.enough), k.small, omega (arith, k.size_is, c.requires.i_in_bounds)) }

pub overflow_sub-q : goal.overflow_sub-q
overflow_sub-q c = omega (arith, c.requires.at.1.group)

pub put_groups-grouped-requires : goal.put_groups-grouped-requires
put_groups-grouped-requires c =
    let a = c.args in
    let k = pieces_of _ _ _ _ _ _ _ _ _ _ _ _ c.requires.at.0 c.requires.at.1 c.requires.at.2 c.object_size-size.ensures.0 in
    let room = pieces_room _ _ _ _ _ _ _ _ _ _ _ _ k a.at (length a.out.now) c.put_lists-lists.result c.requires.i_in_bounds c.put_lists-lists.ensures.ends in
    let labelled = labels_small c.object_size-size.result _ _ _ _ _ k.sum_is k.small in
    record { n_in_bounds = (k.groups_in_lem, c.requires.at.0.label, c.requires.at.0.face); n_in_bounds_2 = (k.labels_in, k.faces_in); by_index = (k.few, labelled, omega (arith, room.1)) }

pub put_smoothing-requires : goal.put_smoothing-requires
put_smoothing-requires c =
    let a = c.args in
    let r = a.rows.now in
    let k = pieces_of _ _ _ _ _ _ _ _ _ _ _ _ c.requires.at.0 c.requires.at.1 c.requires.at.2 c.object_size-size.ensures.0 in
    let room = pieces_room _ _ _ _ _ _ _ _ _ _ _ _ k a.at (length a.out.now) c.put_lists-lists.result c.requires.i_in_bounds c.put_lists-lists.ensures.ends in
    let grouped : c.put_groups-grouped.result ≡ c.put_lists-lists.result + group_bytes r.groups.now a.p.group (a.q.group - a.p.group) =
    c.put_groups-grouped.ensures.ends ∙ ap (λ (n : ℕ). c.put_lists-lists.result + n) (groups_length r.names.now r.groups.now r.faces.now a.from a.p.group (a.q.group - a.p.group) k.labels_in k.faces_in) in
    let few : length (part a.p.word (a.q.word - a.p.word) r.smoothing.now) ≤ 1048576 = rw k.words_long (words_small c.object_size-size.result _ _ _ k.sum_is k.small) in
    let worded : c.put_groups-grouped.result + size_of_words (length (part a.p.word (a.q.word - a.p.word) r.smoothing.now)) ≤ length a.out.now = rw (k.words_long, grouped) room.2 in
    (few, omega (arith, worded))

pub returns : goal.returns
returns c =
    let a = c.args in
    let k = pieces_of _ _ _ _ _ _ _ _ _ _ _ _ c.requires.at.0 c.requires.at.1 c.requires.at.2 c.object_size-size.ensures.0 in
    let room = pieces_room _ _ _ _ _ _ _ _ _ _ _ _ k a.at (length a.out.now) c.put_lists-lists.result c.requires.i_in_bounds c.put_lists-lists.ensures.ends in
    subst (λ (new : List ℕ). Put a.out.now a.at new c.put_smoothing.new.out c.put_smoothing.result)
    (pieces-same _ _ _ _ _ _ _ _ _ _ _ _ c.requires.at.0 c.requires.at.1 k)
    (put_then (omega (arith, c.requires.i_in_bounds)) c.put_lists-lists.ensures (put_then (omega (arith, room.0)) c.put_groups-grouped.ensures c.put_smoothing.ensures))
