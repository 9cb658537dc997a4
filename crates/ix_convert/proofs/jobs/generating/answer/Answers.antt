use Rattle.std.proofs.Common.{◌≡◌, Bool, true, false, ℕ, refl}
use Rattle.spec_run.specs.Changes.{change}
use Rattle.spec_run.specs.Tasks.Generating.{generating_or_running}
use Rattle.ix_convert.proofs.Found.{HasOneAnswer, never_refused, unasked_answers}
use Rattle.ix_convert.proofs.jobs.generating.answer.Goals as goal

generating_one : (count : ℕ) (run : Bool) → HasOneAnswer (generating_or_running count run)
generating_one count true = never_refused (generating_or_running count true) (λ why. why)
generating_one count false = never_refused (generating_or_running count false) (λ why. why)

reads_nothing : (count : ℕ) (run : Bool) → (generating_or_running count run).reads ≡ false
reads_nothing count true = refl
reads_nothing count false = refl

pub returns : goal.returns
returns g c =
    let source = g.S.Source in
    unasked_answers (generating_or_running c.args.count c.args.run) (change source.left source.faults c.args._src.now c.args._src.now)
    c.generate_or_run.new.page.items c.generate_or_run.result (generating_one c.args.count c.args.run) (reads_nothing c.args.count c.args.run) refl c.generate_or_run.ensures
