use Rattle.std.proofs.Common.{◌≡◌, ℕ, sym, ap, ◌∙◌, subst}
use Rattle.spec_core.specs.declared.world.World.{World}
use Rattle.spec_core.specs.Specification.{Specification}
use Rattle.replica_replay.specs.Held.{IsHeld}
use Rattle.replica_replay.specs.Replayed.{Replayed}
use Rattle.replica_replay.specs.Steps.{accepted, outcome}
use Rattle.replay_text.specs.Asked.{OthersHeld, LedBy}
use Rattle.replay_text.specs.Course.{replica_of}
use Rattle.replay_text.proofs.Asked.{others_hold, event_within, led_here}
use Rattle.replay_text.proofs.Going.{accepted_step}
use Rattle.replay_text.proofs.writing.carry_out.Goals as goal

pub returns-in-Some-clause-stepped : goal.returns-in-Some-clause-stepped
returns-in-Some-clause-stepped g c =
    let old = c.args.replay.now in let s = c.args.step.now in let e = c.in-Ok.taken.event in let new = c.step.new.self in
    let went = accepted_step (outcome old.spec old.world old.held s) old.held c.in-Ok.taken c.in-Ok.ensures.answer in
    let held_is = ap (λ (p : Replayed). p.held) c.in-Ok.ensures.ok in
    let world_is = ap (λ (p : Replayed). p.world) c.in-Ok.ensures.ok in
    let broken = sym c.in-Some.is ∙ c.broken_after.ensures in (
      subst (λ (d : Specification). outcome d old.world old.held s ≡ accepted e new.held) c.requires.spec (went ∙ ap (accepted e) (sym held_is)),
      rw (world_is, c.replica_of.ensures) at broken,
    )

pub returns-in-None-clause-stepped : goal.returns-in-None-clause-stepped
returns-in-None-clause-stepped g c =
    let old = c.args.replay.now in let s = c.args.step.now in let e = c.in-Ok.taken.event in let new = c.step.new.self in
    let went = accepted_step (outcome old.spec old.world old.held s) old.held c.in-Ok.taken c.in-Ok.ensures.answer in
    let held_is = ap (λ (p : Replayed). p.held) c.in-Ok.ensures.ok in
    let world_is = ap (λ (p : Replayed). p.world) c.in-Ok.ensures.ok in
    let broken = sym c.in-None.is ∙ c.broken_after.ensures in (
      subst (λ (d : Specification). outcome d old.world old.held s ≡ accepted e new.held) c.requires.spec (went ∙ ap (accepted e) (sym held_is)),
      rw (world_is, c.replica_of.ensures) at broken,
    )

pub broken_after-requires-clause-others : goal.broken_after-requires-clause-others
broken_after-requires-clause-others g c =
    let old = c.args.replay.now in let d = c.args.spec.now in let s = c.args.step.now in let e = c.in-Ok.taken.event in let new = c.step.new.self in
    let went = accepted_step (outcome old.spec old.world old.held s) old.held c.in-Ok.taken c.in-Ok.ensures.answer in
    let held_is = ap (λ (p : Replayed). p.held) c.in-Ok.ensures.ok in
    let world_is = ap (λ (p : Replayed). p.world) c.in-Ok.ensures.ok in
    let gone : outcome d old.world old.held s ≡ accepted e new.held
    = subst (λ (x : Specification). outcome x old.world old.held s ≡ accepted e new.held) c.requires.spec (went ∙ ap (accepted e) (sym held_is)) in
    let held : IsHeld d old.world old.held = subst (λ (x : Specification). IsHeld x old.world old.held) c.requires.spec c.is_held.ensures in
    subst (λ (r : ℕ). OthersHeld d new.world new.held r) (sym c.replica_of.ensures)
    (subst (λ (w : World). OthersHeld d w new.held (replica_of s)) (sym world_is) (others_hold d old.world old.held new.held s e held c.requires.holds gone))

pub broken_after-requires-clause-event : goal.broken_after-requires-clause-event
broken_after-requires-clause-event g c =
    let old = c.args.replay.now in let d = c.args.spec.now in let s = c.args.step.now in let e = c.in-Ok.taken.event in let new = c.step.new.self in
    let went = accepted_step (outcome old.spec old.world old.held s) old.held c.in-Ok.taken c.in-Ok.ensures.answer in
    let held_is = ap (λ (p : Replayed). p.held) c.in-Ok.ensures.ok in
    let world_is = ap (λ (p : Replayed). p.world) c.in-Ok.ensures.ok in
    let gone : outcome d old.world old.held s ≡ accepted e new.held
    = subst (λ (x : Specification). outcome x old.world old.held s ≡ accepted e new.held) c.requires.spec (went ∙ ap (accepted e) (sym held_is)) in
    event_within d old.world old.held new.held s e gone

pub broken_after-requires-clause-led : goal.broken_after-requires-clause-led
broken_after-requires-clause-led g c =
    let old = c.args.replay.now in let d = c.args.spec.now in let s = c.args.step.now in let e = c.in-Ok.taken.event in let new = c.step.new.self in
    let went = accepted_step (outcome old.spec old.world old.held s) old.held c.in-Ok.taken c.in-Ok.ensures.answer in
    let held_is = ap (λ (p : Replayed). p.held) c.in-Ok.ensures.ok in
    let world_is = ap (λ (p : Replayed). p.world) c.in-Ok.ensures.ok in
    let gone : outcome d old.world old.held s ≡ accepted e new.held
    = subst (λ (x : Specification). outcome x old.world old.held s ≡ accepted e new.held) c.requires.spec (went ∙ ap (accepted e) (sym held_is)) in
    let held : IsHeld d old.world old.held = subst (λ (x : Specification). IsHeld x old.world old.held) c.requires.spec c.is_held.ensures in
    subst (λ (r : ℕ). LedBy d new.world new.held r e) (sym c.replica_of.ensures)
    (subst (λ (w : World). LedBy d w new.held (replica_of s) e) (sym world_is) (led_here d old.world old.held new.held s e held c.requires.holds gone))
