use Rattle.std.proofs.lemmas.Result.{IfOk-weaker}
use Rattle.std.specs.Prelude.{option_map}
use Rattle.clone_values.specs.View.{tree_of}
use Rattle.entry_runs.proofs.Calls.{get_by, get_key_by, count_by, get_all_by, get_all_keys_by}
use Rattle.entry_runs.proofs.requests.answer_request.Goals as goal

pub returns-in-Get-clause-come : goal.returns-in-Get-clause-come
returns-in-Get-clause-come g c = IfOk-weaker _ _ _ (λ r e. get_by c.args.front.now c.args.course.now c.args.call.now c.in-Get.target (option_map tree_of r) e c.in-Get.query c.in-Get.is) c.read.ensures.answer

pub returns-in-GetKey-clause-come : goal.returns-in-GetKey-clause-come
returns-in-GetKey-clause-come g c = IfOk-weaker _ _ _ (λ r e. get_key_by c.args.front.now c.args.course.now c.args.call.now c.in-GetKey.target (option_map tree_of r) e c.in-GetKey.query c.in-GetKey.is) c.read-in-GetKey.ensures.answer

pub returns-in-Count-clause-come : goal.returns-in-Count-clause-come
returns-in-Count-clause-come g c = IfOk-weaker _ _ _ (λ r e. count_by c.args.front.now c.args.course.now c.args.call.now c.in-Count.target (option_map tree_of r) e c.in-Count.query c.in-Count.is) c.read-in-Count.ensures.answer

pub returns-in-GetAll-clause-come : goal.returns-in-GetAll-clause-come
returns-in-GetAll-clause-come g c = IfOk-weaker _ _ _ (λ r e. get_all_by c.args.front.now c.args.course.now c.args.call.now c.in-GetAll.target (option_map tree_of r) e c.in-GetAll.query c.in-GetAll.count c.in-GetAll.is) c.read-in-GetAll.ensures.answer

pub returns-in-GetAllKeys-clause-come : goal.returns-in-GetAllKeys-clause-come
returns-in-GetAllKeys-clause-come g c = IfOk-weaker _ _ _ (λ r e. get_all_keys_by c.args.front.now c.args.course.now c.args.call.now c.in-GetAllKeys.target (option_map tree_of r) e c.in-GetAllKeys.query c.in-GetAllKeys.count c.in-GetAllKeys.is) c.read-in-GetAllKeys.ensures.answer
