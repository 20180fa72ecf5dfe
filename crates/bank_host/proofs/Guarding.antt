-- The lines of the bank, tested by hand, and what the two facts about its code come to in a host.
use Rattle.std.proofs.Common.{◌≡◌, ℕ, zero, suc, ◌+◌, ℤ, pos, ◌+ℤ◌, ◌*ℤ◌, int_lt, int_le, Bool, true, false, not, cond, ◌&&◌, ◌==◌, nat_lt, [], ◌∷◌, Option, None, Some, option_map, Result, Ok, refl, sym, ◌∙◌, ap, subst, arith}
use Rattle.std.proofs.lemmas.Bool.{and_parts, ltb-true}
use Rattle.std.proofs.lemmas.Int.{ints}
use Rattle.std.specs.declared.alloc.AllocError.{AllocError}
use Rattle.spec_core.specs.declared.world.World.{World}
use Rattle.spec_core.specs.declared.world.Call.{Call}
use Rattle.spec_core.specs.Specification.{Specification, op_of}
use Rattle.spec_core.specs.State.{Listing, Reads, reads}
use Rattle.spec_core.specs.Truth.{line_true}
use Rattle.spec_core.specs.Meaning.{first_false}
use Rattle.spec_core.specs.Fits.{world_fits}
use Rattle.spec_core.proofs.Operations.{fitting_call}
use Rattle.replica_host.specs.Native.{IsEffect, IsGuard, Meets}
use Rattle.bank_host.specs.Bank.{bank, no_debt, covered}
use Rattle.bank_host.specs.Calls.{account_of, amount_of, false_line, FitIn, Fit}

below_not : (a b c : ℤ) → b ≡ c → not (int_le a b && true) ≡ int_lt c a
below_not a b c e = grind (arith, ints)

once : (n : ℤ) → pos 1 *ℤ n +ℤ pos 0 ≡ n
once n = omega (arith, ints)

module _ (w : World) (r : Reads) (c : Call) where
  debt : not (line_true w r c.args no_debt) ≡ int_lt (amount_of c) (pos 0)
  debt = below_not (pos 0) (pos 1 *ℤ amount_of c +ℤ pos 0) (amount_of c) (once (amount_of c))

  uncovered : not (line_true w r c.args covered) ≡ int_lt (r.count 0 (account_of c ∷ [])) (amount_of c)
  uncovered =
      ap (λ n. not (int_le n (pos 1 *ℤ r.count 0 (account_of c ∷ []) +ℤ pos 0) && true)) (once (amount_of c))
      ∙ below_not (amount_of c) (pos 1 *ℤ r.count 0 (account_of c ∷ []) +ℤ pos 0) (r.count 0 (account_of c ∷ [])) (once (r.count 0 (account_of c ∷ [])))

  lines : (op : ℕ) → nat_lt op 2 ≡ true → cond (int_lt (amount_of c) (pos 0)) (Some 1) (cond ((op == 1) && int_lt (r.count 0 (account_of c ∷ [])) (amount_of c)) (Some 2) None) ≡ option_map (λ place. place + 1) (first_false w r c.args (op_of bank op).requires_)
  lines zero h = first (int_lt (amount_of c) (pos 0)) ∙ ap (λ (b : Bool). option_map (λ place. place + 1) (cond b (Some 0) None)) (sym debt)
    where
      first : (b : Bool) → cond b (Some 1) None ≡ option_map (λ place. place + 1) (cond b (Some 0) None)
      first true = refl
      first false = refl
  lines (suc zero) h =
      both (int_lt (amount_of c) (pos 0)) (int_lt (r.count 0 (account_of c ∷ [])) (amount_of c))
      ∙ (λ i. option_map (λ place. place + 1) (cond (sym debt i) (Some 0) (cond (sym uncovered i) (Some 1) None)))
    where
      both : (a b : Bool) → cond a (Some 1) (cond b (Some 2) None) ≡ option_map (λ place. place + 1) (cond a (Some 0) (cond b (Some 1) None))
      both true b = refl
      both false true = refl
      both false false = refl
  lines (suc (suc op)) h = let lt = ltb-true (suc (suc op)) 2 h in absurd (omega (arith, lt))

pub is_guard : (w : World) (s : Listing) (call : Call) → FitIn w s call → (line : Option ℕ) → line ≡ false_line (reads s) call → IsGuard {E = AllocError} bank w s call (Ok line)
is_guard w s call f line e = record { line = e ∙ lines w (reads s) call call.op (and_parts _ _ (fitting_call bank w call f.call).0).0 }

-- ---- in a host

pub effect_meets : (d : Specification) (w : World) → d ≡ bank → world_fits d w ≡ true → Meets d w (IsEffect d w) Fit (λ s call answer. (v : World) → FitIn v s call → IsEffect bank v s call answer)
effect_meets d w e h = subst (λ b. world_fits b w ≡ true → Meets b w (IsEffect b w) Fit (λ s call answer. (v : World) → FitIn v s call → IsEffect bank v s call answer)) (sym e)
    (λ h. record {
      callable = λ s call state fits. (w, record { world = h; state = state; call = fits });
      answers = λ s call r state fits given. given w (record { world = h; state = state; call = fits });
    }) h

pub guard_meets : (d : Specification) (w : World) → d ≡ bank → world_fits d w ≡ true → Meets {R = Result (Option ℕ) AllocError} d w (IsGuard d w) Fit (λ s call answer. (v : World) → FitIn v s call → IsGuard bank v s call answer)
guard_meets d w e h = subst (λ b. world_fits b w ≡ true → Meets {R = Result (Option ℕ) AllocError} b w (IsGuard b w) Fit (λ s call answer. (v : World) → FitIn v s call → IsGuard bank v s call answer)) (sym e)
    (λ h. record {
      callable = λ s call state fits. (w, record { world = h; state = state; call = fits });
      answers = λ s call r state fits given. given w (record { world = h; state = state; call = fits });
    }) h
