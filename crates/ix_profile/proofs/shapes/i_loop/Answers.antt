use Rattle.std.proofs.Common.{◌^◌}
use Rattle.ix_profile.proofs.Outlines.{listed_loop}
use Rattle.ix_profile.proofs.shapes.i_loop.Goals as goal

pub returns-clause-kept : goal.returns-clause-kept
returns-clause-kept c =
    listed_loop (10 ^ 16) c.in_ok-from_array.ensures.items (
      c.planar.ensures.within,
      (
        c.planar-2.ensures.within,
        (
          c.planar-3.ensures.within,
          (
            c.planar-4.ensures.within,
            (
              c.planar-5.ensures.within,
              (
                c.planar-6.ensures.within,
                (
                  c.planar-7.ensures.within,
                  (
                    c.planar-8.ensures.within,
                    (c.planar-9.ensures.within, (c.planar-10.ensures.within, (c.planar-11.ensures.within, (c.planar-12.ensures.within, tt)))),
                  ),
                ),
              ),
            ),
          ),
        ),
      ),
    )
    tt
