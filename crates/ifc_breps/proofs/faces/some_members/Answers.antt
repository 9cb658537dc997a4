use Rattle.ifc_breps.proofs.Bounded.{members_some}
use Rattle.ifc_breps.proofs.faces.some_members.Goals as goal

pub returns-clause-some : goal.returns-clause-some
returns-clause-some c = members_some c.args.table.now c.args.at c.args.position c.members.result c.members.ensures
