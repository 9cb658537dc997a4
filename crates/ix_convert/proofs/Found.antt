-- What a task finds, and the answer that tells it.
use Rattle.std.proofs.Common.{◌≡◌, ◌⊎◌, ℕ, ◌<◌, length, Bool, true, false, List, [], ◌∷◌, ◌++◌, Option, Some, None, IfSome, Result, Ok, Err, IfOk, inl, inr, refl, sym, ◌∙◌, ap, subst}
use Rattle.std.specs.Prelude.{◌&&◌, ◌||◌, IsTrue, IsErrOf, OnErr, codes}
use Rattle.spec_outside.specs.Causes.{Rose, IsEmptied}
use Rattle.ix_words.specs.declared.status.Status.{Status}
use Rattle.ix_words.specs.declared.status.Status.TheVariants as status
use Rattle.ix_words.specs.Statuses.{is_done}
use Rattle.ix_outside.specs.declared.fault.TakeFault.{TakeFault}
use Rattle.ix_outside.specs.declared.fault.TakeFault.TheVariants as take
use Rattle.spec_run.specs.Changes.{Change}
use Rattle.spec_run.specs.Inputs.{most_bytes}
use Rattle.spec_run.specs.Task.{Task}
use Rattle.spec_run.specs.Findings.{Finding, Answered, Refused, ReadFault, NoMemory, given_to, IsReadWhole, IsCalm, HasFailed, IsMadeIf, HasCause, IsAnswerOrWants, IsReasonOrWants, IsFound}
use Rattle.ix_convert.specs.Answers.{Says, SaysWant, unread_status, unread_text, Tells, IsFoundIn, AnswersIn, IsTold, Answers}
use Rattle.ix_convert.specs.declared.answer.Answer.{Answer}

-- an input of a task has one answer, or is refused for one reason
pub record HasOneAnswer (t : Task) : Type 0 where
  pub answered : (given page : List ℕ) (a : t.Answer) (why : t.Fault) → t.IsAnswer given page a → t.IsRefused given why → ⊥
  pub taken : (given : List ℕ) (why : t.Fault) → t.IsTaken given → t.IsRefused given why → ⊥
  pub one : (given : List ℕ) (why other : t.Fault) → t.IsRefused given why → t.IsRefused given other → why ≡ other

-- so has one of a task that refuses nothing
pub never_refused : (t : Task) → (t.Fault → ⊥) → HasOneAnswer t
never_refused t never = record {
  answered = λ given page a why answer refused. never why;
  taken = λ given why taken refused. never why;
  one = λ given why other h k. absurd (never why);
}

pub always : (o : Option (List ℕ)) (P : List ℕ → Type 0) → ((given : List ℕ) → P given) → IfSome o P
always None P h = tt
always (Some given) P h = h given

pub through : (o : Option (List ℕ)) (P Q : List ℕ → Type 0) → ((given : List ℕ) → P given → Q given) → IfSome o P → IfSome o Q
through None P Q f h = tt
through (Some given) P Q f h = f given h

-- what holds of the bytes that were read holds of those that a source tells
held : (had : Option (List ℕ)) (bytes : List ℕ) (P : List ℕ → Type 0) → IfSome had (λ given. bytes ≡ given) → P bytes → IfSome had P
held None bytes P e h = tt
held (Some given) bytes P e h = subst P e h

found_answers : (t : Task) (src : Change) (page : List ℕ) (f : Finding t) → HasOneAnswer t → HasCause t src page f
    → IfSome (given_to t.reads src.before.bytes) (λ given. t.IsTaken given → IsAnswerOrWants t f)
found_answers t src page (Answered a) laws h =
    always (given_to t.reads src.before.bytes) (λ given. t.IsTaken given → IsAnswerOrWants t (Answered a)) (λ given taken. tt)
found_answers t src page (Refused why) laws h =
    through (given_to t.reads src.before.bytes) (λ given. t.IsRefused given why) (λ given. t.IsTaken given → IsAnswerOrWants t (Refused why))
    (λ given refused taken. laws.taken given why taken refused) h.0
found_answers t src page ReadFault laws h =
    always (given_to t.reads src.before.bytes) (λ given. t.IsTaken given → IsAnswerOrWants t ReadFault) (λ given taken. tt)
found_answers t src page NoMemory laws h =
    always (given_to t.reads src.before.bytes) (λ given. t.IsTaken given → IsAnswerOrWants t NoMemory) (λ given taken. tt)

found_refuses : (t : Task) (src : Change) (page : List ℕ) (f : Finding t) → HasOneAnswer t → HasCause t src page f
    → IfSome (given_to t.reads src.before.bytes) (λ given. (why : t.Fault) → t.IsRefused given why → IsReasonOrWants t why f)
found_refuses t src page (Answered a) laws h =
    through (given_to t.reads src.before.bytes) (λ given. t.IsAnswer given page a × t.IsSound page)
    (λ given. (why : t.Fault) → t.IsRefused given why → IsReasonOrWants t why (Answered a))
    (λ given answer why refused. laws.answered given page a why answer.0 refused) h.0
found_refuses t src page (Refused other) laws h =
    through (given_to t.reads src.before.bytes) (λ given. t.IsRefused given other)
    (λ given. (why : t.Fault) → t.IsRefused given why → IsReasonOrWants t why (Refused other))
    (λ given k why refused. laws.one given other why k refused) h.0
found_refuses t src page ReadFault laws h =
    always (given_to t.reads src.before.bytes) (λ given. (why : t.Fault) → t.IsRefused given why → IsReasonOrWants t why ReadFault) (λ given why refused. tt)
found_refuses t src page NoMemory laws h =
    always (given_to t.reads src.before.bytes) (λ given. (why : t.Fault) → t.IsRefused given why → IsReasonOrWants t why NoMemory) (λ given why refused. tt)

-- what has its cause is the one thing that is due
found_of : (t : Task) (src : Change) (page : List ℕ) (f : Finding t) → HasOneAnswer t → HasCause t src page f → IsFound t src page f
found_of t src page f laws h = record {
  cause = h;
  answers = found_answers t src page f laws h;
  refuses = found_refuses t src page f laws h;
}

-- The finding that an answer tells.

told_by : (t : Task) (src : Change) (page : List ℕ) (answer : Answer) (f : Finding t) → Tells t answer f → IsFound t src page f → Answers t src page answer
told_by t src page answer (Answered a) tells h = record { told = inl (inl (a, (tells, h))) }
told_by t src page answer (Refused why) tells h = record { told = inl (inr (why, (tells, h))) }
told_by t src page answer ReadFault tells h = record { told = inr (inl (tells, h)) }
told_by t src page answer NoMemory tells h = record { told = inr (inr (tells, h)) }

pub finding_of : (t : Task) (src : Change) (page : List ℕ) (answer : Answer) → Answers t src page answer → (f : Finding t) × IsTold t src page answer f
finding_of t src page answer h = by_case t src page answer h.told
  where
    by_case : (t : Task) (src : Change) (page : List ℕ) (answer : Answer)
        → (((a : t.Answer) × IsTold t src page answer (Answered a)) ⊎ ((why : t.Fault) × IsTold t src page answer (Refused why)))
        ⊎ (IsTold t src page answer ReadFault ⊎ IsTold t src page answer NoMemory) → (f : Finding t) × IsTold t src page answer f
    by_case t src page answer (inl (inl (a, told))) = (Answered a, told)
    by_case t src page answer (inl (inr (why, told))) = (Refused why, told)
    by_case t src page answer (inr (inl told)) = (ReadFault, told)
    by_case t src page answer (inr (inr told)) = (NoMemory, told)

-- A source that is read.

given_read : (reads : Bool) (had : Option (List ℕ)) (P : List ℕ → Type 0) → reads ≡ true → IfSome had P → IfSome (given_to reads had) P
given_read true had P e h = h
given_read false had P e h = cc

whole_read : (reads : Bool) (src : Change) → reads ≡ true → IsEmptied src.before.bytes src.after.bytes → src.after.faults ≡ src.before.faults → IsReadWhole reads src
whole_read true src e ended calm = (ended, calm)
whole_read false src e ended calm = cc

calm_read : (reads : Bool) (src : Change) → reads ≡ true → src.after.faults ≡ src.before.faults → IsCalm reads src
calm_read true src e calm = calm
calm_read false src e calm = cc

failed_read : (reads : Bool) (src : Change) → reads ≡ true → Rose src.before.faults src.after.faults → HasFailed reads src
failed_read true src e rose = rose
failed_read false src e rose = cc

read_cause : (t : Task) (src : Change) (bytes page : List ℕ) (f : Finding t) → t.reads ≡ true → IfSome src.before.bytes (λ given. bytes ≡ given)
    → IsEmptied src.before.bytes src.after.bytes → src.after.faults ≡ src.before.faults → IsFoundIn t bytes page f → HasCause t src page f
read_cause t src bytes page (Answered a) reads had ended calm h = (
  given_read t.reads src.before.bytes (λ given. t.IsAnswer given page a × t.IsSound page) reads
      (held src.before.bytes bytes (λ given. t.IsAnswer given page a × t.IsSound page) had (h.0, h.1)),
  h.2,
  whole_read t.reads src reads ended calm,
)
read_cause t src bytes page (Refused why) reads had ended calm h = (
  given_read t.reads src.before.bytes (λ given. t.IsRefused given why) reads (held src.before.bytes bytes (λ given. t.IsRefused given why) had h.0),
  h.1,
  calm_read t.reads src reads calm,
)
read_cause t src bytes page ReadFault reads had ended calm h = absurd h
read_cause t src bytes page NoMemory reads had ended calm h = (h.0, h.1, calm_read t.reads src reads calm)

-- what is found in the bytes that were read to their end, which were lent, is found of the source
pub read_answers : (t : Task) (src : Change) (bytes lent page : List ℕ) (answer : Answer) → HasOneAnswer t → t.reads ≡ true
    → IfSome src.before.bytes (λ given. bytes ≡ given) → IsEmptied src.before.bytes src.after.bytes → src.after.faults ≡ src.before.faults → lent ≡ bytes
    → AnswersIn t lent page answer → Answers t src page answer
read_answers t src bytes lent page answer laws reads had ended calm same (f, tells, h) =
    told_by t src page answer f tells
    (found_of t src page f laws (read_cause t src bytes page f reads had ended calm (subst (λ (given : List ℕ). IsFoundIn t given page f) same h)))

wants_read : (reads makes : Bool) → reads ≡ true → IsTrue (reads || makes)
wants_read true makes e = refl
wants_read false makes e = cc

blank_made : (makes : Bool) (page : List ℕ) → page ≡ [] → IsMadeIf makes page
blank_made true page e = tt
blank_made false page e = e

abbrev failure : {T : Type 0} → TakeFault → Result T TakeFault
failure why = Err why

-- the source was not read to its end
pub unread_answers : {T : Type 0} (t : Task) (large : t.Fault) (src : Change) (page : List ℕ) (answer : Answer) (fault : TakeFault) → HasOneAnswer t
    → t.reads ≡ true → t.reason large ≡ codes "FileTooLarge" → ((given : List ℕ) → most_bytes < length given → t.IsRefused given large) → page ≡ []
    → (IsErrOf (failure {T = T} fault) take.TooLarge → IfSome src.before.bytes (λ given. most_bytes < length given))
    → (IsErrOf (failure {T = T} fault) take.Fault → Rose src.before.faults src.after.faults)
    → ((IsErrOf (failure {T = T} fault) take.Fault → ⊥) → src.after.faults ≡ src.before.faults)
    → Says answer (unread_status fault) (unread_text fault) false → Answers t src page answer
unread_answers t large src page answer take.Fault laws reads reason is_large blank too_large cause kept says =
    told_by t src page answer ReadFault says (found_of t src page ReadFault laws (failed_read t.reads src reads (cause refl), blank))
unread_answers {T = T} t large src page answer take.TooLarge laws reads reason is_large blank too_large cause kept says =
    told_by t src page answer (Refused large)
    (record { status = says.status; report = says.report ∙ ap (λ (r : List ℕ). codes "refused " ++ r ++ 10 ∷ []) (sym reason); put = says.put })
    (found_of t src page (Refused large) laws (
      given_read t.reads src.before.bytes (λ given. t.IsRefused given large) reads
          (through src.before.bytes (λ given. most_bytes < length given) (λ given. t.IsRefused given large) is_large (too_large refl)),
      blank,
      calm_read t.reads src reads (kept differ),
    ))
  where
    differ : failure {T = T} take.TooLarge ≡ failure {T = T} take.Fault → ⊥
    differ e = cc
unread_answers {T = T} t large src page answer take.NoMemory laws reads reason is_large blank too_large cause kept says =
    told_by t src page answer NoMemory says
    (found_of t src page NoMemory laws (wants_read t.reads t.makes reads, blank_made t.makes page blank, calm_read t.reads src reads (kept differ)))
  where
    differ : failure {T = T} take.NoMemory ≡ failure {T = T} take.Fault → ⊥
    differ e = cc

-- A source that is not read.

given_unread : (reads : Bool) (had : Option (List ℕ)) (P : List ℕ → Type 0) → reads ≡ false → P [] → IfSome (given_to reads had) P
given_unread true had P e h = cc
given_unread false had P e h = h

whole_unread : (reads : Bool) (src : Change) → reads ≡ false → src.same → IsReadWhole reads src
whole_unread true src e same = cc
whole_unread false src e same = same

calm_unread : (reads : Bool) (src : Change) → reads ≡ false → src.same → IsCalm reads src
calm_unread true src e same = cc
calm_unread false src e same = same

unasked_cause : (t : Task) (src : Change) (page : List ℕ) (f : Finding t) → t.reads ≡ false → src.same → IsFoundIn t [] page f → HasCause t src page f
unasked_cause t src page (Answered a) reads same h = (
  given_unread t.reads src.before.bytes (λ given. t.IsAnswer given page a × t.IsSound page) reads (h.0, h.1),
  h.2,
  whole_unread t.reads src reads same,
)
unasked_cause t src page (Refused why) reads same h =
    (given_unread t.reads src.before.bytes (λ given. t.IsRefused given why) reads h.0, h.1, calm_unread t.reads src reads same)
unasked_cause t src page ReadFault reads same h = absurd h
unasked_cause t src page NoMemory reads same h = (h.0, h.1, calm_unread t.reads src reads same)

-- what is found without reading is found of a source that is left as it was
pub unasked_answers : (t : Task) (src : Change) (page : List ℕ) (answer : Answer) → HasOneAnswer t → t.reads ≡ false → src.same
    → AnswersIn t [] page answer → Answers t src page answer
unasked_answers t src page answer laws reads same (f, tells, h) =
    told_by t src page answer f tells (found_of t src page f laws (unasked_cause t src page f reads same h))

-- Reports that were built.

-- an answer with its report, or want of memory
pub built_answer : {V E : Type 0} (t : Task) (given page : List ℕ) (answer : Answer) (r : Result V E) (items : V → List ℕ) (a : t.Answer) (due : Status) (puts : Bool)
    → IsTrue (t.reads || t.makes) → IfOk r (λ text. Says answer due (items text) puts) → OnErr r (SaysWant answer) → IfOk r (λ text. items text ≡ t.report a)
    → due ≡ t.status a → puts ≡ (t.puts && is_done (t.status a)) → IsMadeIf t.makes page → t.IsAnswer given page a → t.IsSound page → AnswersIn t given page answer
built_answer t given page answer (Ok text) items a due puts able says wants is same put made h sound = (
  Answered a,
  record { status = says.status ∙ same; report = says.report ∙ is; put = says.put ∙ put },
  (h, sound, made),
)
built_answer t given page answer (Err e) items a due puts able says wants is same put made h sound = (NoMemory, wants, (able, made))

-- a refusal with its report, or want of memory
pub built_refusal : {V E : Type 0} (t : Task) (given page : List ℕ) (answer : Answer) (r : Result V E) (items : V → List ℕ) (why : t.Fault)
    → IsTrue (t.reads || t.makes) → IfOk r (λ text. Says answer status.FileRefused (items text) false) → OnErr r (SaysWant answer)
    → IfOk r (λ text. items text ≡ codes "refused " ++ t.reason why ++ 10 ∷ []) → page ≡ [] → t.IsRefused given why → AnswersIn t given page answer
built_refusal t given page answer (Ok text) items why able says wants is blank h =
    (Refused why, record { status = says.status; report = says.report ∙ is; put = says.put }, (h, blank))
built_refusal t given page answer (Err e) items why able says wants is blank h = (NoMemory, wants, (able, blank_made t.makes page blank))

-- what is said for each x of a kind is said for this one
pub at_one : {V E X : Type 0} (r : Result V E) (P : X → Type 0) (Q : V → X → Type 0) (x : X) → P x → IfOk r (λ v. (x : X) → P x → Q v x) → IfOk r (λ v. Q v x)
at_one (Ok v) P Q x p h = h x p
at_one (Err e) P Q x p h = tt

-- want of memory
pub wants_memory : (t : Task) (given page : List ℕ) (answer : Answer) → IsTrue (t.reads || t.makes) → IsMadeIf t.makes page → SaysWant answer → AnswersIn t given page answer
wants_memory t given page answer able made wants = (NoMemory, wants, (able, made))
