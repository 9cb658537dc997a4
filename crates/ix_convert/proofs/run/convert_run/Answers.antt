use Rattle.spec_run.specs.Changes.{change}
use Rattle.ix_convert.proofs.Puts.{run_of, made_of, sound_of, whole_of, unput_of, kept_of, unread_of}
use Rattle.ix_convert.proofs.run.convert_run.Goals as goal

pub returns-clause-run : goal.returns-clause-run
returns-clause-run g c =
    let source = g.S.Source in
    let out = g.O.Sink in
    let rep = g.R.Sink in
    let answer = c.answer_words-answer in
    run_of _ (change source.left source.faults c.args.src.now answer.new.src) (change out.held out.faults c.args.out.now c.deliver.new.out)
    (change rep.held rep.faults c.args.rep.now c.deliver.new.rep) answer.new.page.items c.deref.result.now answer.result c.deliver.result
    answer.ensures c.deref.ensures.value c.deliver.ensures.delivered c.deliver.ensures.kept

pub returns-clause-headline : goal.returns-clause-headline
returns-clause-headline g c done = made_of _ _ _ _ _ _ (returns-clause-run g c) done

pub returns-clause-sound : goal.returns-clause-sound
returns-clause-sound g c done = sound_of _ _ _ _ _ _ (returns-clause-run g c) done

pub returns-clause-out_whole : goal.returns-clause-out_whole
returns-clause-out_whole g c done = whole_of _ _ _ _ _ _ (returns-clause-run g c) done

pub returns-clause-out_untouched : goal.returns-clause-out_untouched
returns-clause-out_untouched g c unput = unput_of _ _ _ _ _ _ (returns-clause-run g c) unput

pub returns-clause-untouched : goal.returns-clause-untouched
returns-clause-untouched g c unread = unread_of _ _ _ _ _ _ (returns-clause-run g c) unread

pub returns-clause-out_kept : goal.returns-clause-out_kept
returns-clause-out_kept g c undone fine = kept_of _ _ _ _ _ _ (returns-clause-run g c) undone fine
