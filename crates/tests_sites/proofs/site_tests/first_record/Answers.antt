use Rattle.tests_sites.proofs.site_tests.first_record.Goals as goal

pub touched-requires-clause-site : goal.touched-requires-clause-site
touched-requires-clause-site g c = c.in_ok-mem.ensures.is _
