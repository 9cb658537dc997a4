use Rattle.std.proofs.Common.{◌∙◌, sym}
use Rattle.std.proofs.lemmas.List.{nil_from_length}
use Rattle.face_walk.proofs.Lowered.{down_begins, on_begins, safe_begins, down_goes_on, on_goes_on, safe_next, safe_goes_on, fragments_go_on, down_ends}
use Rattle.face_walk.proofs.lower.add_faces.Goals as goal

pub down-init : goal.down-init
down-init c =
    let pool = c.args.pool.now in
    let planes = c.args.book.now in
    let whole = c.args.sheet in
    let old = c.args.faces.now.items in
    let none = c.new-sheets.result.items in
    let sheets = c.push.new.self.items in
    let empty = c.new-sheets.ensures.items in
    let one = c.in_ok-push.ensures.items in
    record {
      safe = safe_begins pool planes whole old none sheets empty one c.requires.safe;
      fragments = λ all. all;
      down = λ t fit is. down_begins pool planes whole old none sheets empty one t is;
      on = λ id on. on_begins pool planes whole old none sheets empty one id on;
    }

pub turn-requires : goal.turn-requires
turn-requires c = record {
  safe = safe_next c.args.pool.now c.args.book.now c.args.sheet c.args.faces.now.items c.down.sheets.items c.pop.new.self.items c.pop.new.self.items c.in-Some.next c.down.faces.items c.down.faces.items c.in-Some.ensures.items
      c.down.invariant.safe;
}

pub down-preserved : goal.down-preserved
down-preserved c =
    let pool = c.args.pool.now in
    let planes = c.args.book.now in
    let whole = c.args.sheet in
    let old = c.args.faces.now.items in
    let waits = c.down.sheets.items in
    let rest = c.pop.new.self.items in
    let new = c.turn.new.sheets.items in
    let s = c.in-Some.next in
    let found = c.down.faces.items in
    let faces = c.turn.new.faces.items in
    let popped = c.in-Some.ensures.items in
    let turn = c.in_ok-turn.ensures.turn in
    let so_far = c.down.invariant in
    record {
      safe = safe_goes_on pool planes whole old waits rest new s found faces popped turn so_far.safe;
      fragments = λ given. fragments_go_on pool planes whole old waits rest new s found faces popped turn so_far.safe so_far.fragments given;
      down = λ t fit is. down_goes_on pool planes whole old waits rest new s found faces popped turn t fit (so_far.down t fit is);
      on = λ id is. on_goes_on pool planes whole old waits rest new s found faces popped turn id (so_far.on id is);
    }

pub returns : goal.returns
returns c =
    let so_far = c.down.invariant in
    let empty = nil_from_length c.down.sheets.items (sym c.down.sheets.ok.0 ∙ c.in_default.ensures.cases.0) in
    record {
      added = down_ends c.args.pool.now c.args.book.now c.args.sheet c.args.faces.now.items c.down.sheets.items c.down.faces.items empty so_far.down so_far.on so_far.fragments;
    }
