use Rattle.std.proofs.Common.{length, refl, false}
use Rattle.std.proofs.lemmas.Option.{slice_get-get_or, slice_get_read}
use Rattle.poly_frag.specs.declared.frag.Edge.{Edge}
use Rattle.edge_cut.proofs.outlines.side_at.Goals as goal

pub returns : goal.returns
returns c =
    let d : Edge = record { plane = record { k = 0 }; keep_front = false } in
    record {
      before = slice_get-get_or c.args.before.now c.args.i d c.requires.before;
      edge = slice_get-get_or c.args.edges.now c.args.i d c.requires.edges;
      after = slice_get-get_or c.args.after.now c.args.i d c.requires.after;
      start = slice_get_read c.args.starts.now (length c.args.starts.now) c.args.i c.index-starts-i.result refl c.requires.starts c.index-starts-i.is;
      end = slice_get_read c.args.ends.now (length c.args.ends.now) c.args.i c.index-ends-i.result refl c.requires.ends c.index-ends-i.is;
    }
