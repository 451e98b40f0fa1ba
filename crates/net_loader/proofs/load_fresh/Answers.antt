-- What the words hold after each step, and what each refusal says of the bytes. Assumes nothing.
use Rattle.net_loader.proofs.LoadLaws.{refuses, shape_refused, sized_front, front_refused, arcs_inside, arcs_room, fronted, arcs_refused, ruled, taken}
use Rattle.net_loader.proofs.load_fresh.Goals as goal

pub returns-in_err-refuse_shape : goal.returns-in_err-refuse_shape
returns-in_err-refuse_shape c = refuses _ _ _ _ c.from_residual.ensures.1 (shape_refused _ _ c.in_err-refuse_shape.ensures)

pub refuse_front-requires : goal.refuse_front-requires
refuse_front-requires c = sized_front _ _ _ c.requires c.in_ok-refuse_shape.ensures c.copy_front.ensures

pub returns-in_err-refuse_front : goal.returns-in_err-refuse_front
returns-in_err-refuse_front c = refuses _ _ _ _ c.from_residual-in_err-refuse_front.ensures.1 (front_refused _ _ _ c.requires c.in_ok-refuse_shape.ensures c.copy_front.ensures _ c.in_err-refuse_front.ensures)

pub copy_body-requires-clause-inside : goal.copy_body-requires-clause-inside
copy_body-requires-clause-inside c = arcs_inside _ _ _ c.requires c.in_ok-refuse_shape.ensures c.copy_front.ensures c.in_ok-refuse_front.ensures

pub copy_body-requires-clause-room : goal.copy_body-requires-clause-room
copy_body-requires-clause-room c = arcs_room _ _ _ c.requires c.in_ok-refuse_shape.ensures c.copy_front.ensures c.in_ok-refuse_front.ensures

pub refuse_arcs-requires : goal.refuse_arcs-requires
refuse_arcs-requires c = fronted _ _ _ c.requires c.in_ok-refuse_shape.ensures c.copy_front.ensures c.in_ok-refuse_front.ensures _ c.copy_body.ensures

pub returns-in_err-refuse_arcs : goal.returns-in_err-refuse_arcs
returns-in_err-refuse_arcs c =
    refuses _ _ _ _ c.from_residual-in_err-refuse_arcs.ensures.1
    (arcs_refused _ _ _ c.requires c.in_ok-refuse_shape.ensures c.copy_front.ensures c.in_ok-refuse_front.ensures _ c.copy_body.ensures _ c.in_err-refuse_arcs.ensures)

pub index_arcs-requires : goal.index_arcs-requires
index_arcs-requires c = ruled _ _ _ c.requires c.in_ok-refuse_shape.ensures c.copy_front.ensures c.in_ok-refuse_front.ensures _ c.copy_body.ensures c.in_ok-refuse_arcs.ensures

pub returns : goal.returns
returns c = taken _ _ _ c.requires c.in_ok-refuse_shape.ensures c.copy_front.ensures c.in_ok-refuse_front.ensures _ c.copy_body.ensures c.in_ok-refuse_arcs.ensures _ c.index_arcs.ensures
