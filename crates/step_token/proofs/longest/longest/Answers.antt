use Rattle.std.proofs.Common.{ℕ, ◌≡◌, ◌++◌, List, true}
use Rattle.std.proofs.lemmas.Slice.Eq.{starts_is}
use Rattle.std.proofs.lemmas.Bool.Decides.{Decides-eqb}
use Rattle.std.proofs.lemmas.Bool.{both_ways}
use Rattle.step_token.proofs.Words.{start_word, end_word, start_longest, end_longest, longest_neither}
use Rattle.step_token.proofs.longest.longest.Goals as goal

pub returns-then-starts_with : goal.returns-then-starts_with
returns-then-starts_with c =
    start_longest c.args.bytes.now _ ((starts_is Decides-eqb c.args.bytes.now start_word _ c.starts_with.ensures.value).0 c.if-starts_with.true)

pub returns-then-starts_with-2 : goal.returns-then-starts_with-2
returns-then-starts_with-2 c =
    end_longest c.args.bytes.now _ ((starts_is Decides-eqb c.args.bytes.now end_word _ c.starts_with-2.ensures.value).0 c.if-starts_with-2.true)

pub returns : goal.returns
returns c =
    let no_start : (rest : List ℕ) → c.args.bytes.now ≡ start_word ++ rest → c.starts_with.result ≡ true =
    (starts_is Decides-eqb c.args.bytes.now start_word _ c.starts_with.ensures.value).1 in
    let no_end : (rest : List ℕ) → c.args.bytes.now ≡ end_word ++ rest → c.starts_with-2.result ≡ true =
    (starts_is Decides-eqb c.args.bytes.now end_word _ c.starts_with-2.ensures.value).1 in
    longest_neither c.args.bytes.now c.longest_by_class.result
    (λ rest e. both_ways _ c.if-starts_with.false (no_start rest e))
    (λ rest e. both_ways _ c.if-starts_with-2.false (no_end rest e)) c.longest_by_class.ensures
