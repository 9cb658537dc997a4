use Rattle.std.proofs.Common.{[], ◌∷◌, ◌++◌, codes}
use Rattle.spec_page.specs.Lines.{spaced_vector}
use Rattle.world_print.proofs.Appended.{refused, begun_six, one_more, stopped, stopped_in, complete}
use Rattle.obj_text.proofs.lines.put_frame.Goals as goal

pub returns-in_err-put_vector : goal.returns-in_err-put_vector
returns-in_err-put_vector c =
    refused c.from_residual-in_err-put_vector.result c.from_residual-in_err-put_vector.ensures.0
    (stopped_in (spaced_vector c.args.frame.now.x) (spaced_vector c.args.frame.now.y ++ (spaced_vector c.args.frame.now.z ++ (spaced_vector c.args.frame.now.off ++ (10 ∷ []))))
    (one_more (codes "#frame")
    (begun_six (codes "#frame") (spaced_vector c.args.frame.now.x) (spaced_vector c.args.frame.now.y) (spaced_vector c.args.frame.now.z) (spaced_vector c.args.frame.now.off) (10 ∷ [])) c.in_ok-extend_from_slice.ensures.items)
    c.in_err-put_vector.ensures)

pub returns-in_err-put_vector-2 : goal.returns-in_err-put_vector-2
returns-in_err-put_vector-2 c =
    refused c.from_residual-in_err-put_vector-2.result c.from_residual-in_err-put_vector-2.ensures.0
    (stopped_in (spaced_vector c.args.frame.now.y) (spaced_vector c.args.frame.now.z ++ (spaced_vector c.args.frame.now.off ++ (10 ∷ [])))
    (one_more (spaced_vector c.args.frame.now.x)
    (one_more (codes "#frame")
    (begun_six (codes "#frame") (spaced_vector c.args.frame.now.x) (spaced_vector c.args.frame.now.y) (spaced_vector c.args.frame.now.z) (spaced_vector c.args.frame.now.off) (10 ∷ [])) c.in_ok-extend_from_slice.ensures.items) c.in_ok-put_vector.ensures)
    c.in_err-put_vector-2.ensures)

pub returns-in_err-put_vector-3 : goal.returns-in_err-put_vector-3
returns-in_err-put_vector-3 c =
    refused c.from_residual-in_err-put_vector-3.result c.from_residual-in_err-put_vector-3.ensures.0
    (stopped_in (spaced_vector c.args.frame.now.z) (spaced_vector c.args.frame.now.off ++ (10 ∷ []))
    (one_more (spaced_vector c.args.frame.now.y)
    (one_more (spaced_vector c.args.frame.now.x)
    (one_more (codes "#frame")
    (begun_six (codes "#frame") (spaced_vector c.args.frame.now.x) (spaced_vector c.args.frame.now.y) (spaced_vector c.args.frame.now.z) (spaced_vector c.args.frame.now.off) (10 ∷ [])) c.in_ok-extend_from_slice.ensures.items) c.in_ok-put_vector.ensures) c.in_ok-put_vector-2.ensures)
    c.in_err-put_vector-3.ensures)

pub returns-in_err-put_vector-4 : goal.returns-in_err-put_vector-4
returns-in_err-put_vector-4 c =
    refused c.from_residual-in_err-put_vector-4.result c.from_residual-in_err-put_vector-4.ensures.0
    (stopped_in (spaced_vector c.args.frame.now.off) (10 ∷ [])
    (one_more (spaced_vector c.args.frame.now.z)
    (one_more (spaced_vector c.args.frame.now.y)
    (one_more (spaced_vector c.args.frame.now.x)
    (one_more (codes "#frame")
    (begun_six (codes "#frame") (spaced_vector c.args.frame.now.x) (spaced_vector c.args.frame.now.y) (spaced_vector c.args.frame.now.z) (spaced_vector c.args.frame.now.off) (10 ∷ [])) c.in_ok-extend_from_slice.ensures.items) c.in_ok-put_vector.ensures) c.in_ok-put_vector-2.ensures) c.in_ok-put_vector-3.ensures)
    c.in_err-put_vector-4.ensures)

pub returns-in_err-push : goal.returns-in_err-push
returns-in_err-push c =
    refused c.from_residual-in_err-push.result c.from_residual-in_err-push.ensures.0
    (stopped
    (one_more (spaced_vector c.args.frame.now.off)
    (one_more (spaced_vector c.args.frame.now.z)
    (one_more (spaced_vector c.args.frame.now.y)
    (one_more (spaced_vector c.args.frame.now.x)
    (one_more (codes "#frame")
    (begun_six (codes "#frame") (spaced_vector c.args.frame.now.x) (spaced_vector c.args.frame.now.y) (spaced_vector c.args.frame.now.z) (spaced_vector c.args.frame.now.off) (10 ∷ [])) c.in_ok-extend_from_slice.ensures.items) c.in_ok-put_vector.ensures) c.in_ok-put_vector-2.ensures) c.in_ok-put_vector-3.ensures) c.in_ok-put_vector-4.ensures)
    c.in_err-push.ensures.items)

pub returns : goal.returns
returns c =
    complete
    (one_more (10 ∷ [])
    (one_more (spaced_vector c.args.frame.now.off)
    (one_more (spaced_vector c.args.frame.now.z)
    (one_more (spaced_vector c.args.frame.now.y)
    (one_more (spaced_vector c.args.frame.now.x)
    (one_more (codes "#frame")
    (begun_six (codes "#frame") (spaced_vector c.args.frame.now.x) (spaced_vector c.args.frame.now.y) (spaced_vector c.args.frame.now.z) (spaced_vector c.args.frame.now.off) (10 ∷ [])) c.in_ok-extend_from_slice.ensures.items) c.in_ok-put_vector.ensures) c.in_ok-put_vector-2.ensures) c.in_ok-put_vector-3.ensures) c.in_ok-put_vector-4.ensures)
    c.in_ok-push.ensures.items)
