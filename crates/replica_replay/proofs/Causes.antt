-- What comes of a call that is tried, cause by cause.
use Rattle.std.specs.Prelude.{Option, None, Some}
use Rattle.std.specs.Option.{option_map}
use Rattle.std.proofs.Common.{◌≡◌, ℕ, ◌+◌, refl, sym, ◌∙◌, ap}
use Rattle.spec_core.specs.declared.world.World.{World}
use Rattle.spec_core.specs.declared.world.Call.{Call}
use Rattle.spec_core.specs.Specification.{Specification, op_of}
use Rattle.spec_core.specs.State.{Reads}
use Rattle.spec_core.specs.Meaning.{first_false}
use Rattle.effectors.specs.Effect.{after_call}
use Rattle.effectors.specs.Beyond.{Beyond, first_beyond}
use Rattle.token_protocol.specs.declared.node.WhyVoid.{WhyVoid}
use Rattle.token_protocol.specs.declared.node.WhyVoid.TheVariants.{Precondition, Observation}
use Rattle.token_protocol.specs.Node.{because, false_requires, false_observes, beyond_range, why_void}
use Rattle.token_protocol.proofs.Places.{absent, one_found}

abbrev one_more : ℕ → ℕ
one_more place = place + 1

-- the cause that a line's number names
found_line : (o : Option ℕ) (line : ℕ) (cause : ℕ → WhyVoid) (next : Option WhyVoid) → Some line ≡ option_map one_more o → because o (λ place. cause (place + 1)) next ≡ Some (cause line)
found_line None line cause next h = absurd (absent line (sym h))
found_line (Some place) line cause next h = ap (λ n. Some (cause n)) (sym (one_found line (place + 1) h))

no_line : (o : Option ℕ) (cause : ℕ → WhyVoid) (next : Option WhyVoid) → None ≡ option_map one_more o → because o cause next ≡ next
no_line None cause next h = refl
no_line (Some place) cause next h = absurd (absent (place + 1) h)

module _ (d : Specification) (w : World) (r : Reads) (call : Call) where
  abbrev asks : Option ℕ
  asks = first_false w r call.args (op_of d call.op).requires_

  abbrev sees : Option ℕ
  sees = first_false w r call.args (op_of d call.op).observes

  abbrev value : Option Beyond
  value = first_beyond 0 (after_call d w call r).counters

  pub void_by_requires : (line : ℕ) → Some line ≡ option_map one_more asks → why_void d w r call ≡ Some (Precondition line)
  void_by_requires line h = found_line asks line Precondition (because sees false_observes (because value beyond_range None)) h

  pub void_by_observes : (line : ℕ) → None ≡ option_map one_more asks → Some line ≡ option_map one_more sees → why_void d w r call ≡ Some (Observation line)
  void_by_observes line n h = no_line asks false_requires (because sees false_observes (because value beyond_range None)) n ∙ found_line sees line Observation (because value beyond_range None) h

  past_lines : None ≡ option_map one_more asks → None ≡ option_map one_more sees → why_void d w r call ≡ because value beyond_range None
  past_lines n m = no_line asks false_requires (because sees false_observes (because value beyond_range None)) n ∙ no_line sees false_observes (because value beyond_range None) m

  pub void_by_range : (b : Beyond) → None ≡ option_map one_more asks → None ≡ option_map one_more sees → value ≡ Some b → why_void d w r call ≡ Some (beyond_range b)
  void_by_range b n m v = past_lines n m ∙ ap (λ (o : Option Beyond). because o beyond_range None) v

  pub not_void : None ≡ option_map one_more asks → None ≡ option_map one_more sees → value ≡ None → why_void d w r call ≡ None
  not_void n m v = past_lines n m ∙ ap (λ (o : Option Beyond). because o beyond_range None) v
