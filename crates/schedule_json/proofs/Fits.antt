-- A schedule that is read fits its specification.
use Rattle.std.proofs.Common.{◌≡◌, ℕ, ℤ, pos, negsuc, suc, ◌<◌, ◌≤◌, Bool, true, false, ◌&&◌, ◌==◌, List, [], ◌∷◌, length, map, get_or, Option, None, Some, option_and_then, Ok, Err, IfOk, refl, ap, subst, arith}
use Rattle.std.specs.Prelude.{nat_le, nat_lt, if◌then◌else◌, codes}
use Rattle.std.proofs.lemmas.Bool.Decides.{nat_tests}
use Rattle.std.specs.List.{list_all}
use Rattle.serde_json.specs.Data.{Data, Items, no_items, item}
use Rattle.serde_json.specs.Find.{get, as_array}
use Rattle.serde_json.specs.Events.{items_len}
use Rattle.spec_core.specs.declared.spec.Const.{Const}
use Rattle.spec_core.specs.declared.world.World.{World}
use Rattle.spec_core.specs.Limits.{most_elements}
use Rattle.spec_core.specs.Specification.{Specification}
use Rattle.spec_core.specs.Fits.{fits_places, world_fits}
use Rattle.replica_replay.specs.declared.step.Step.{Step}
use Rattle.schedule_json.specs.declared.refusal.Path.{Path}
use Rattle.schedule_json.specs.declared.refusal.Path.TheVariants as path
use Rattle.schedule_json.specs.declared.refusal.Fault.TheVariants as fault
use Rattle.schedule_json.specs.Parts.{natural, whole, has_exactly}
use Rattle.schedule_json.specs.declared.refusal.ScheduleRefused.{ScheduleRefused}
use Rattle.schedule_json.specs.declared.schedule.Schedule.{Schedule}
use Rattle.schedule_json.specs.Checks.{Checked, located, need, with_some, and_then, with_first}
use Rattle.schedule_json.specs.Worlds.{size_limit, in_limit, sizes_at, sizes_of, elements_at, elements_of, const_names, world_of}
use Rattle.schedule_json.specs.Recorded.{most_steps, at_step, step_of, steps_at, steps_of}
use Rattle.schedule_json.specs.Schedules.{most_replicas, value_of, count_of, replicas_of, schedule_keys, schedule_from}
use Rattle.schedule_json.specs.Fitting.{IsScheduleOf}

-- ---- what has passed a check

pub record Passed {A B : Type 0} (r : Checked A) (next : A → Checked B) (b : B) : Type 0 where
  pub found : A
  pub is : r ≡ Ok found
  pub rest : next found ≡ Ok b

passed_need : {A : Type 0} (t : Bool) (why : ScheduleRefused) (next : Checked A) (a : A) → need t why next ≡ Ok a → next ≡ Ok a
passed_need true why next a e = e
passed_need false why next a e = absurd (cc e)

need_test : {A : Type 0} (t : Bool) (why : ScheduleRefused) (next : Checked A) (a : A) → need t why next ≡ Ok a → t ≡ true
need_test true why next a e = refl
need_test false why next a e = absurd (cc e)

passed : {A B : Type 0} (r : Checked A) (next : A → Checked B) (b : B) → and_then r next ≡ Ok b → Passed r next b
passed (Ok x) next b e = record { found = x; is = refl; rest = e }
passed (Err why) next b e = absurd (cc e)

pub record PassedSome {A B : Type 0} (o : Option A) (next : A → Checked B) (b : B) : Type 0 where
  pub found : A
  pub rest : next found ≡ Ok b

passed_some : {A B : Type 0} (o : Option A) (why : ScheduleRefused) (next : A → Checked B) (b : B) → with_some o why next ≡ Ok b → PassedSome o next b
passed_some (Some x) why next b e = record { found = x; rest = e }
passed_some None why next b e = absurd (cc e)

pub record First {A : Type 0} (r : Checked A) (rest : Checked (List A)) (xs : List A) : Type 0 where
  pub first : A
  pub others : List A
  pub first_is : r ≡ Ok first
  pub others_are : rest ≡ Ok others
  pub all : xs ≡ first ∷ others

passed_first : {A : Type 0} (r : Checked A) (rest : Checked (List A)) (xs : List A) → with_first r rest ≡ Ok xs → First r rest xs
passed_first (Ok x) (Ok ys) xs e = record { first = x; others = ys; first_is = refl; others_are = refl; all = cc e }
passed_first (Ok x) (Err why) xs e = absurd (cc e)
passed_first (Err why) rest xs e = absurd (cc e)

-- ---- numbers below a limit

below_limit : (limit : ℕ) (t : Bool) (m n : ℕ) (path : Path) → nat_lt m limit ≡ t → located path (in_limit limit (Some m)) ≡ Ok n → n < limit
below_limit limit true m n path e h = let g = rw e at h in let same : m ≡ n = cc g in subst (λ k. k < limit) same (grind (arith, nat_tests))
below_limit limit false m n path e h = let g = rw e at h in absurd (cc g)

below_option : (limit : ℕ) (o : Option ℕ) (n : ℕ) (path : Path) → located path (in_limit limit o) ≡ Ok n → n < limit
below_option limit None n path h = absurd (cc h)
below_option limit (Some m) n path h = below_limit limit (nat_lt m limit) m n path refl h

-- ---- the world

pub record SizesFit (names : List (List ℕ)) (sizes : List ℕ) : Type 0 where
  pub each : (length sizes == length names) ≡ true
  pub small : list_all (λ n. nat_le n most_elements) sizes ≡ true

small_size : (n : ℕ) → n < size_limit → nat_le n most_elements ≡ true
small_size n h = grind (arith, nat_tests)

one_more : (a b : ℕ) → (a == b) ≡ true → (suc a == suc b) ≡ true
one_more a b e = grind (arith, nat_tests)

sizes_fit : (names : List (List ℕ)) (v : Data) (sizes : List ℕ) → sizes_at names v ≡ Ok sizes → SizesFit names sizes
sizes_fit [] v sizes e = let is : sizes ≡ [] = cc e in rw is (record { each = refl; small = refl })
sizes_fit (name ∷ names) v sizes e =
    let p = passed_first _ (sizes_at names v) sizes e in
    let more = sizes_fit names v p.others p.others_are in
    let low = small_size p.first (below_option size_limit (option_and_then natural (get name v)) p.first (path.Size name) p.first_is) in
    rw p.all (record { each = one_more (length p.others) (length names) more.each; small = rw low more.small })

below_more : (t b : Bool) (n m : ℕ) → nat_lt n m ≡ t → n < m → b ≡ true → t && b ≡ true
below_more t b n m e h k = grind (arith, nat_tests)

elements_fit : (w : World) (cs : List Const) (v : Data) (es : List ℕ) → elements_at w.sizes cs v ≡ Ok es → fits_places w (map (λ c. c.sort) cs) es ≡ true
elements_fit w [] v es e = let is : es ≡ [] = cc e in rw is refl
elements_fit w (c ∷ cs) v es e =
    let p = passed_first _ (elements_at w.sizes cs v) es e in
    let more = elements_fit w cs v p.others p.others_are in
    let low = below_option (get_or w.sizes c.sort 0) (option_and_then natural (get c.name v)) p.first (path.Constant c.name) p.first_is in
    rw p.all (below_more _ _ p.first (get_or w.sizes c.sort 0) refl low more)

world_fit : (d : Specification) (v : Data) (w : World) → world_of d v ≡ Ok w → world_fits d w ≡ true
world_fit d v w e =
    let p = passed (sizes_of d (get (codes "sizes") v)) _ w e in
    let q = passed (elements_of d p.found (get (codes "constants") v)) _ w p.rest in
    let s = passed_some (get (codes "sizes") v) _ _ p.found p.is in
    let sized = sizes_fit d.sorts s.found p.found (passed_need (has_exactly d.sorts s.found) _ _ p.found s.rest) in
    let t = passed_some (get (codes "constants") v) _ _ q.found q.is in
    let made : World = record { sizes = p.found; consts = q.found } in
    let is : w ≡ made = cc q.rest in
    let placed = elements_fit made d.consts t.found q.found (passed_need (has_exactly (const_names d.consts) t.found) _ _ q.found t.rest) in
    rw is (rw (sized.each, placed) sized.small)

-- ---- the whole

steps_length : (k : ℕ) (vs : Items) (ss : List Step) → steps_at k vs ≡ Ok ss → length ss ≡ items_len vs
steps_length k no_items ss e = let is : ss ≡ [] = cc e in rw is refl
steps_length k (item v vs) ss e =
    let p = passed_first (at_step k (step_of v)) (steps_at (suc k) vs) ss e in
    rw p.all (ap suc (steps_length (suc k) vs p.others p.others_are))

few_steps : (vs : Items) (ss : List Step) → nat_le (items_len vs) most_steps ≡ true → length ss ≡ items_len vs → length ss ≤ most_steps
few_steps vs ss e h = grind (arith, nat_tests)

steps_fit : (v : Option Data) (ss : List Step) → steps_of v ≡ Ok ss → length ss ≤ most_steps
steps_fit v ss e =
    let p = passed_some (option_and_then as_array v) _ _ ss e in
    few_steps p.found ss (need_test (nat_le (items_len p.found) most_steps) _ _ ss p.rest) (steps_length 0 p.found ss (passed_need (nat_le (items_len p.found) most_steps) _ _ ss p.rest))

pub record CountFits (n : ℕ) : Type 0 where
  pub some : 1 ≤ n
  pub few : n ≤ most_replicas

count_test : (n m : ℕ) (b : Bool) → (nat_le 1 n && nat_le n most_replicas) ≡ b → located path.Replicas (if b then Ok n else Err fault.Size) ≡ Ok m → CountFits m
count_test n m true e h = let is : n ≡ m = cc h in subst CountFits is (record { some = grind (arith, nat_tests); few = grind (arith, nat_tests) })
count_test n m false e h = absurd (cc h)

count_fits : (o : Option ℤ) (n : ℕ) → located path.Replicas (count_of o) ≡ Ok n → CountFits n
count_fits None n e = absurd (cc e)
count_fits (Some (pos m)) n e = count_test m n _ refl e
count_fits (Some (negsuc m)) n e = absurd (cc e)

pub schedule_fits : (d : Specification) (bytes : List ℕ) (s : Schedule) → schedule_from d bytes ≡ Ok s → IsScheduleOf d s
schedule_fits d bytes s e =
    let v = passed_some (value_of bytes) _ _ s e in
    let top = passed_need (has_exactly schedule_keys v.found) _ _ s v.rest in
    let p = passed (world_of d v.found) _ s top in
    let q = passed (replicas_of (get (codes "replicas") v.found)) _ s p.rest in
    let r = passed (steps_of (get (codes "steps") v.found)) _ s q.rest in
    let made : Schedule = record { world = p.found; replicas = q.found; steps = r.found } in
    let is : made ≡ s = cc r.rest in
    let counted = count_fits (option_and_then whole (get (codes "replicas") v.found)) q.found q.is in
    subst (IsScheduleOf d) is (record { world = world_fit d v.found p.found p.is; some = counted.some; replicas = counted.few; steps = steps_fit (get (codes "steps") v.found) r.found r.is })

pub fits_along : (d : Specification) (bytes : List ℕ) (r : Checked Schedule) → IfOk r (λ s. schedule_from d bytes ≡ Ok s) → IfOk r (IsScheduleOf d)
fits_along d bytes (Ok s) e = schedule_fits d bytes s e
fits_along d bytes (Err why) e = tt
