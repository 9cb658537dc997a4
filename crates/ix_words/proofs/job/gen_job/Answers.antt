use Rattle.ix_words.proofs.Choices.{too_many}
use Rattle.ix_words.proofs.job.gen_job.Goals as goal

pub returns-in-len3-up-clause-value : goal.returns-in-len3-up-clause-value
returns-in-len3-up-clause-value c = too_many c.args.words.now c.in-len3-up.len_at_least
