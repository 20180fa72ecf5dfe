-- The numbers in the jobs that words ask for.
use Rattle.std.proofs.Common.{◌≡◌, ℕ, ◌<◌, ◌≤◌, Bool, true, false, List, [], ◌∷◌, length, get_or, map, Option, Some, None, IfSome, refl, sym, ap, ◌∙◌, arith}
use Rattle.std.specs.Prelude.{if◌then◌else◌, codes}
use Rattle.std.specs.Str.{bytes_eq}
use Rattle.word_cut.specs.Whole.{size_read}
use Rattle.report_lines.specs.Heads.{most_budget}
use Rattle.cise_program.specs.declared.words.Task.TheVariants.{Check, Verify, Upgrade, Replay, Simulate, Suggest, Spell}
use Rattle.cise_program.specs.declared.words.Job.{Job}
use Rattle.cise_program.specs.declared.words.Job.TheVariants.{OfSpec}
use Rattle.cise_program.specs.Words.{default_budget, most_sample, is_within, within, number_in, check_within, sample_of, job_of_two, job_of_three, job_of_four, job_of, is_job}

abbrev IsAllowed : Option Job → Type 0
IsAllowed asked = IfSome asked (λ job. is_job job ≡ true)

-- a choice between two that are allowed
choose : (b : Bool) (x y : Option Job) → IsAllowed x → IsAllowed y → IsAllowed (if b then x else y)
choose true x y a c = a
choose false x y a c = c

allowed_check : (b : Bool) (n : ℕ) → is_within most_budget n ≡ b → IsAllowed (check_within (if b then Some n else None))
allowed_check true n e = e
allowed_check false n e = tt

allowed_sample : (b : Bool) (n : ℕ) → is_within most_sample n ≡ b → IsAllowed (sample_of (if b then Some n else None))
allowed_sample true n e = e
allowed_sample false n e = tt

check_allowed : (read : Option ℕ) → IsAllowed (check_within (within most_budget read))
check_allowed None = tt
check_allowed (Some n) = allowed_check (is_within most_budget n) n refl

sample_allowed : (read : Option ℕ) → IsAllowed (sample_of (within most_sample read))
sample_allowed None = tt
sample_allowed (Some n) = allowed_sample (is_within most_sample n) n refl

two_allowed : (command word : List ℕ) → IsAllowed (job_of_two command word)
two_allowed command word =
    choose (bytes_eq command (codes "check")) (Some (OfSpec (Check default_budget))) _ refl
    (choose (bytes_eq command (codes "suggest")) (Some (OfSpec Suggest)) _ refl
    (choose (bytes_eq command (codes "spell")) (Some (OfSpec Spell)) _ refl
    (choose (bytes_eq command (codes "sample")) (sample_of (number_in most_sample word)) None (sample_allowed (size_read word)) tt)))

three_allowed : (command : List ℕ) → IsAllowed (job_of_three command)
three_allowed command =
    choose (bytes_eq command (codes "verify")) (Some (OfSpec Verify)) _ refl
    (choose (bytes_eq command (codes "upgrade")) (Some (OfSpec Upgrade)) _ refl
    (choose (bytes_eq command (codes "replay")) (Some (OfSpec Replay)) _ refl
    (choose (bytes_eq command (codes "simulate")) (Some (OfSpec Simulate)) None refl tt)))

four_allowed : (command option word : List ℕ) → IsAllowed (job_of_four command option word)
four_allowed command option word =
    choose (bytes_eq command (codes "check")) _ None
    (choose (bytes_eq option (codes "--budget")) (check_within (number_in most_budget word)) None (check_allowed (size_read word)) tt) tt

-- the numbers of a job that words ask for are within their limits
pub is_job-job_of : (words : List (List ℕ)) → IsAllowed (job_of words)
is_job-job_of [] = tt
is_job-job_of (command ∷ []) = tt
is_job-job_of (command ∷ word ∷ []) = two_allowed command word
is_job-job_of (command ∷ path ∷ other ∷ []) = three_allowed command
is_job-job_of (command ∷ path ∷ option ∷ word ∷ []) = four_allowed command option word
is_job-job_of (command ∷ path ∷ option ∷ word ∷ more ∷ words) = tt

-- ---- words, by their number

pub three_words : {A : Type 0} (f : A → List ℕ) (ws : List A) (x : A) → 3 ≤ length ws → length ws < 4 → x ≡ get_or ws 0 x → job_of (map f ws) ≡ job_of_three (f x)
three_words f [] x low high e = absurd (omega (arith, low))
three_words f (p ∷ []) x low high e = absurd (omega (arith, low))
three_words f (p ∷ q ∷ []) x low high e = absurd (omega (arith, low))
three_words f (p ∷ q ∷ r ∷ []) x low high e = ap (λ w. job_of_three (f w)) (sym e)
three_words f (p ∷ q ∷ r ∷ s ∷ ws) x low high e = absurd (omega (arith, high))

pub four_words : {A : Type 0} (f : A → List ℕ) (ws : List A) (x y z : A) → 4 ≤ length ws → length ws < 5 → x ≡ get_or ws 0 x → y ≡ get_or ws 2 y → z ≡ get_or ws 3 z
    → job_of (map f ws) ≡ job_of_four (f x) (f y) (f z)
four_words f [] x y z low high d e g = absurd (omega (arith, low))
four_words f (p ∷ []) x y z low high d e g = absurd (omega (arith, low))
four_words f (p ∷ q ∷ []) x y z low high d e g = absurd (omega (arith, low))
four_words f (p ∷ q ∷ r ∷ []) x y z low high d e g = absurd (omega (arith, low))
four_words f (p ∷ q ∷ r ∷ s ∷ []) x y z low high d e g = ap (λ w. job_of_four (f w) (f r) (f s)) (sym d) ∙ ap (λ w. job_of_four (f x) (f w) (f s)) (sym e) ∙ ap (λ w. job_of_four (f x) (f y) (f w)) (sym g)
four_words f (p ∷ q ∷ r ∷ s ∷ t ∷ ws) x y z low high d e g = absurd (omega (arith, high))
