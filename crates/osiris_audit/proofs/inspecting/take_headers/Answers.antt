use Rattle.osiris_audit.proofs.Causing.{over_no_write}
use Rattle.osiris_audit.proofs.Opening.{open_wrong, open_right, open_other, open_broken}
use Rattle.osiris_audit.proofs.inspecting.take_headers.Goals as goal

pub returns-in-Ok-false-clause-give : goal.returns-in-Ok-false-clause-give
returns-in-Ok-false-clause-give g c = λ w. (
  (λ e. absurd cc),
  (λ e. open_wrong c.in-Ok-false.field-0 _ _ _ w _ _ c.in-Ok-false.field-0-test c.requires.index_new c.in-Ok-false.ensures.takes),
)

pub returns-in-Ok-clause-give : goal.returns-in-Ok-clause-give
returns-in-Ok-clause-give g c = λ w. (
  (λ e. open_right c.in-Ok-true.field-0 c.in-Ok.right _ _ _ _ w _ _ c.in-Ok-true.field-0-test c.in-Ok-true.ensures.takes c.in-Ok.ensures.takes e),
  (λ e. open_other c.in-Ok-true.field-0 c.in-Ok.right _ _ _ _ w _ _ c.in-Ok-true.field-0-test c.in-Ok-true.ensures.takes c.in-Ok.ensures.takes e),
)

pub returns-in-Err-take_header-clause-give : goal.returns-in-Err-take_header-clause-give
returns-in-Err-take_header-clause-give g c = λ w. open_broken c.in-Err-take_header.fault c.in-Ok-true.field-0 _ _ _ _ w _ _ c.in-Ok-true.field-0-test c.in-Ok-true.ensures.takes c.in-Err-take_header.ensures.takes

pub returns-in-Err-clause-no_write : goal.returns-in-Err-clause-no_write
returns-in-Err-clause-no_write g c = λ e. over_no_write c.in-Err.fault _ c.in-Err.ensures.takes.by.0 (cc e)

pub returns-in-Err-take_header-clause-no_write : goal.returns-in-Err-take_header-clause-no_write
returns-in-Err-take_header-clause-no_write g c = λ e. over_no_write c.in-Err-take_header.fault _ c.in-Err-take_header.ensures.takes.by.0 (cc e)
