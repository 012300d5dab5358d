-- `start_surface` meets its contract: the columns are three bytes apart, and the points of a column twelve.
use mathlib.Core.Path.{◌∙◌, ap}
use Rattle.surface.specs.Surface.{surface_of}
use Rattle.patch.proofs.Along.{face_is}
use Rattle.patch.proofs.start.start_surface.Goals as goal

pub returns : goal.returns
returns c = c.start_surface.ensures ∙ ap (λ P. surface_of P 0) (face_is c.args.patch c.args.a)
