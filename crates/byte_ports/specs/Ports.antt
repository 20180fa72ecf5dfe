-- What is known of a sink at one time.
use Rattle.std.specs.Prelude.{ℕ, List, Option}

-- A port is what a sink holds, where it tells that, and how often it has failed.
pub record Port : Type 0 where
  pub held : Option (List ℕ)
  pub faults : ℕ

-- the port of a sink, by what it holds and how often it has failed
abbrev pub port_of : {K : Type 0} → (K → Option (List ℕ)) → (K → ℕ) → K → Port
port_of holds fails sink = record { held = holds sink; faults = fails sink }
