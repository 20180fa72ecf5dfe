use Rattle.std.proofs.Common.{◌≡◌, true, subst, sym}
use Rattle.std.specs.List.{list_all}
use Rattle.std.specs.Str.{is_utf8}
use Rattle.spec_core.specs.Specification.{Specification}
use Rattle.schedule_json.specs.Worlds.{const_names}
use Rattle.schedule_json.proofs.Names.{constant_names}
use Rattle.schedule_json.proofs.worlds.read_elements.Goals as goal

pub is_keyed_by_constants-requires : goal.is_keyed_by_constants-requires
is_keyed_by_constants-requires c = rw c.as_slice.ensures (subst (λ (d : Specification). list_all is_utf8 (const_names d.consts) ≡ true) (sym c.spec.view_is) (constant_names c.args.spec.now c.well_formed-2.ensures))

pub read_each_element-requires : goal.read_each_element-requires
read_each_element-requires c = rw c.as_slice-in-Some.ensures (subst (λ (d : Specification). list_all is_utf8 (const_names d.consts) ≡ true) (sym c.spec.view_is) (constant_names c.args.spec.now c.well_formed-2.ensures))
