use Rattle.feed_engine.proofs.lent.LentActorActor.act.Goals as goal

pub act-requires : goal.act-requires
act-requires g c =
    c.requires.able.able _ _ _ _ _ _ _ _ _ _
    (record { whole = c.requires.whole; writes = c.requires.faults; reads = c.requires.reads; tags = c.requires.tags; kept = c.requires.kept; above = c.requires.above })

pub returns-clause-acts : goal.returns-clause-acts
returns-clause-acts g c = (c.requires.able.acts _ _ _ _ _ _ _ _ _ _ _ _ _ _ _ _ c.act.ensures).acts

pub returns-clause-reads : goal.returns-clause-reads
returns-clause-reads g c = (c.requires.able.acts _ _ _ _ _ _ _ _ _ _ _ _ _ _ _ _ c.act.ensures).reads

pub returns-clause-written : goal.returns-clause-written
returns-clause-written g c = (c.requires.able.acts _ _ _ _ _ _ _ _ _ _ _ _ _ _ _ _ c.act.ensures).written

pub returns-clause-untouched : goal.returns-clause-untouched
returns-clause-untouched g c = (c.requires.able.acts _ _ _ _ _ _ _ _ _ _ _ _ _ _ _ _ c.act.ensures).untouched

pub returns-clause-names : goal.returns-clause-names
returns-clause-names g c = (c.requires.able.acts _ _ _ _ _ _ _ _ _ _ _ _ _ _ _ _ c.act.ensures).names_kept

pub returns-clause-held : goal.returns-clause-held
returns-clause-held g c = (c.requires.able.acts _ _ _ _ _ _ _ _ _ _ _ _ _ _ _ _ c.act.ensures).held

pub returns-clause-lawful : goal.returns-clause-lawful
returns-clause-lawful g c = (c.requires.able.acts _ _ _ _ _ _ _ _ _ _ _ _ _ _ _ _ c.act.ensures).lawful

pub returns-clause-elements : goal.returns-clause-elements
returns-clause-elements g c = (c.requires.able.acts _ _ _ _ _ _ _ _ _ _ _ _ _ _ _ _ c.act.ensures).elements

pub returns-clause-last : goal.returns-clause-last
returns-clause-last g c = (c.requires.able.acts _ _ _ _ _ _ _ _ _ _ _ _ _ _ _ _ c.act.ensures).last

pub returns-clause-settled : goal.returns-clause-settled
returns-clause-settled g c = (c.requires.able.acts _ _ _ _ _ _ _ _ _ _ _ _ _ _ _ _ c.act.ensures).settled

pub returns-clause-stands : goal.returns-clause-stands
returns-clause-stands g c = (c.requires.able.acts _ _ _ _ _ _ _ _ _ _ _ _ _ _ _ _ c.act.ensures).stands
