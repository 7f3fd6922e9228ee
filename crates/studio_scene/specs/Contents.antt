-- What the meshes of a run hold, wherever they stand: all of a mesh but where its name is.
use Rattle.std.specs.Prelude.{List, map}
use Rattle.studio_rules.specs.Layout.{Run}
use Rattle.studio_rules.specs.Gives.{Mesh, meshes_of}

abbrev pub unplaced : Mesh → Mesh
unplaced m =
    record {
      name_at = 0;
      name_length = m.name_length;
      vertex_count = m.vertex_count;
      vertices = m.vertices;
      face_count = m.face_count;
      corners = m.corners;
      pair_count = m.pair_count;
      mapping = m.mapping;
    }

abbrev pub contents : Run → List Mesh
contents t = map unplaced (meshes_of 0 0 0 t)
