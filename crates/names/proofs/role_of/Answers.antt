-- Past all arms the definition finds none of its names.
use Rattle.names.specs.Roles.{roled}
use Rattle.names.proofs.RoleLaws.{among, arm_names, plain}
use Rattle.names.proofs.role_of.Goals as goal

pub returns-in_default : goal.returns-in_default
unfolding roled arm_names among
returns-in_default c = plain roled arm_names c.args.name c.in_default.in_default-own.rest tt
