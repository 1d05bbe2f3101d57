use Rattle.std.specs.List.{filter_map}
use Rattle.key_order.specs.Conversion.{key_of}
use Rattle.key_paths.proofs.KeysFound.{key_again}
use Rattle.key_order.proofs.Laws.{shallow, all_shallow, once, key_formed, keys_formed, value_formed}
use Rattle.key_paths.proofs.StaysCloneable.{key_cloneable}
use Rattle.key_paths.proofs.conversion.conversion_laws.Goals as goal

pub returns : goal.returns
returns c = record {
  again = key_again;
  shallow = shallow;
  all_shallow = all_shallow;
  once = λ ts. once (filter_map key_of ts);
  key = key_formed;
  keys = keys_formed;
  value = value_formed;
  cloneable = key_cloneable;
}
