use Rattle.std.proofs.Common.{◌≤◌, length, arith}
use Rattle.std.proofs.lemmas.List.{drop_all}
use Rattle.key_paths.proofs.KeysFound.{values_done}
use Rattle.key_paths.proofs.conversion.+to_value.Goals as goal

pub values_of-returns : goal.values_of-returns
values_of-returns t c =
    let past : length c.args.keys.now ≤ c.loop-place.place = omega arith in
    rw c.in_ok-from_vec.ensures (values_done _ _ _ (drop_all _ _ past) c.loop-place.invariant.so_far)
