use Rattle.std.proofs.Common.{Some}
use Rattle.std.proofs.lemmas.Map.Text.{btree_map_updates_str}
use Rattle.hoa_reader.proofs.elaborate.places.Places.add.Goals as goal

pub returns-clause-added : goal.returns-clause-added
returns-clause-added g c = λ q.
    btree_map_updates_str c.args.text.now c.args.self.now.places c.insert.new.self (Some c.args.value) c.in_ok-insert.ensures.updates q
