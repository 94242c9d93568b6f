use Rattle.std.proofs.Common.{refl}
use Rattle.flow_text.specs.declared.record.Record.TheVariants.{Transition, Divergence, Label}
use Rattle.flow_text.proofs.Putting.{puts_by, transition_put, divergence_put, label_put, transition_refused, divergence_refused, label_refused}
use Rattle.flow_text.proofs.lists.put.Goals as goal

pub returns-in-Transition-clause-put : goal.returns-in-Transition-clause-put
returns-in-Transition-clause-put c counts =
    puts_by _ _ _ _ (Transition c.in-Transition.x) _ c.in-Transition.is _ _ _ _ c.add.ensures.added
    (λ a before rs k. transition_put before _ _ _ _ _ rs k c.in-Transition.x _ a refl refl)
    (λ f b before rs k. transition_refused before _ _ _ _ _ rs k _ f c.in-Transition.x _ b refl refl)

pub returns-in-Divergence-clause-put : goal.returns-in-Divergence-clause-put
returns-in-Divergence-clause-put c counts =
    puts_by _ _ _ _ (Divergence c.in-Divergence.x) _ c.in-Divergence.is _ _ _ _ c.add-in-Divergence.ensures.added
    (λ a before rs k. divergence_put before _ _ _ _ _ rs k c.in-Divergence.x _ a refl refl)
    (λ f b before rs k. divergence_refused before _ _ _ _ _ rs k _ f c.in-Divergence.x _ b refl refl)

pub returns-in-Label-clause-put : goal.returns-in-Label-clause-put
returns-in-Label-clause-put c counts =
    puts_by _ _ _ _ (Label c.in-Label.x) _ c.in-Label.is _ _ _ _ c.add-in-Label.ensures.added
    (λ a before rs k. label_put before _ _ _ _ _ rs k c.in-Label.x _ a refl refl)
    (λ f b before rs k. label_refused before _ _ _ _ _ rs k _ f c.in-Label.x _ b refl refl)
