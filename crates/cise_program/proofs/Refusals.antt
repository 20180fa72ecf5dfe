-- Bytes that are no specification are refused for one reason; where it is a fault of their tree, it is the least.
use Rattle.std.proofs.Common.{◌≡◌, ◌↔◌, ℕ, true, List, Option, Some, None, sym, subst, inl, inr}
use Rattle.std.specs.Io.KnownBytes.{Appends}
use Rattle.spec_trees.specs.Form.{TreeForm}
use Rattle.typing_rules.specs.Fault.{Fault}
use Rattle.typing_rules.specs.FaultRules.{IsLeastFault}
use Rattle.spec_from_bytes.specs.Refusal.{IsTreeOf, Refusal, faulty, IsRefusal, refusal_text}
use Rattle.cise_program.specs.declared.words.Task.{Task}
use Rattle.cise_program.specs.declared.words.Task.TheVariants.{Check, Verify, Upgrade, Replay, Simulate, Suggest, Spell}
use Rattle.cise_program.specs.declared.words.Job.{Job}
use Rattle.cise_program.specs.declared.words.Job.TheVariants.{OfSpec, Sample}
use Rattle.cise_program.specs.Words.{reads_spec}
use Rattle.cise_program.specs.Answer.{IsAnswerOf, IsAnswer}
use Rattle.cise_program.specs.Headline.{may_end_of, IsLeastOf, RefusesRightly}
use Rattle.cise_program.proofs.Complete.{outcome_ends}

-- no outcome of a task has the status of a refusal
never_refuses : (task : Task) → may_end_of task 3 ≡ true → ⊥
never_refuses (Check budget) e = absurd (cc e)
never_refuses Verify e = absurd (cc e)
never_refuses Upgrade e = absurd (cc e)
never_refuses Replay e = absurd (cc e)
never_refuses Simulate e = absurd (cc e)
never_refuses Suggest e = absurd (cc e)
never_refuses Spell e = absurd (cc e)

refused_for : (task : Task) (bytes more text : List ℕ) → IsAnswerOf task bytes more 3 text → (why : Refusal) × IsRefusal bytes why × (text ≡ refusal_text why)
refused_for task bytes more text (inl (why, is, one)) = (why, is, one.1)
refused_for task bytes more text (inr (tree, d, read, done)) = absurd (never_refuses task (outcome_ends task tree d more 3 text done))

abbrev pub IsLeastAlways : Type 0
IsLeastAlways = (bytes : List ℕ) (f : Fault) → IsRefusal bytes (faulty f) ↔ ((t : TreeForm) × IsTreeOf bytes t × IsLeastFault t f)

least_of : (bytes : List ℕ) (why : Refusal) → IsLeastAlways → IsRefusal bytes why → IsLeastOf bytes why
least_of bytes why least is = λ f e. (least bytes f).0 (subst (IsRefusal bytes) e is)

refuses : (task : Task) (bytes more text : List ℕ) (before after : Option (List ℕ)) → IsLeastAlways → IsAnswerOf task bytes more 3 text → Appends before after text
    → (why : Refusal) × IsRefusal bytes why × Appends before after (refusal_text why) × IsLeastOf bytes why
refuses task bytes more text before after least a written =
    let r = refused_for task bytes more text a in
    (r.0, r.1, subst (Appends before after) r.2 written, least_of bytes r.0 least r.1)

pub refused_rightly : (job : Option Job) (told extra : Option (List ℕ)) (text : List ℕ) (before after : Option (List ℕ)) → IsLeastAlways → reads_spec job ≡ true
    → IsAnswer job told extra 3 text → Appends before after text → RefusesRightly told (record { before = before; after = after })
refused_rightly job None extra text before after least reads a w = tt
refused_rightly None (Some bytes) extra text before after least reads a w = absurd (cc reads)
refused_rightly (Some (Sample n)) (Some bytes) extra text before after least reads a w = absurd (cc reads)
refused_rightly (Some (OfSpec task)) (Some bytes) extra text before after least reads (given, more, told, also, a) w =
    refuses task bytes more text before after least (subst (λ bs. IsAnswerOf task bs more 3 text) (sym told) a) w
