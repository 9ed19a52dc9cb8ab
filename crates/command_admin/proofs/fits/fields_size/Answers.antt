use Rattle.std.proofs.Common.{refl, arith}
use Rattle.command_admin.proofs.fits.fields_size.Goals as goal

pub returns-in-Create : goal.returns-in-Create
returns-in-Create c = rw c.in-Create.is c.size_of_three.ensures

pub returns-in-Delete : goal.returns-in-Delete
returns-in-Delete c = rw c.in-Delete.is c.size_of_two.ensures

pub returns-in-Metadata : goal.returns-in-Metadata
returns-in-Metadata c = rw c.in-Metadata.is c.size_of_two-in-Metadata.ensures

pub returns-in-MetadataAnswer : goal.returns-in-MetadataAnswer
returns-in-MetadataAnswer c = rw c.in-MetadataAnswer.is c.size_of_three-in-MetadataAnswer.ensures

pub returns-in-MetadataUpdate : goal.returns-in-MetadataUpdate
returns-in-MetadataUpdate c = rw c.in-MetadataUpdate.is c.size_of_two-in-MetadataUpdate.ensures

pub returns-in-PeerProperties : goal.returns-in-PeerProperties
returns-in-PeerProperties c = rw c.in-PeerProperties.is c.size_of_two-in-PeerProperties.ensures

pub returns-in-PeerAnswer : goal.returns-in-PeerAnswer
returns-in-PeerAnswer c = rw c.in-PeerAnswer.is c.answer_size.ensures

pub returns-in-SaslHandshake : goal.returns-in-SaslHandshake
returns-in-SaslHandshake c = rw c.in-SaslHandshake.is c.field_size.ensures

pub returns-in-MechanismAnswer : goal.returns-in-MechanismAnswer
returns-in-MechanismAnswer c = rw c.in-MechanismAnswer.is c.answer_size-in-MechanismAnswer.ensures

pub returns-in-SaslAuthenticate : goal.returns-in-SaslAuthenticate
returns-in-SaslAuthenticate c = rw c.in-SaslAuthenticate.is c.size_of_three-in-SaslAuthenticate.ensures

pub returns-in-SaslAnswer : goal.returns-in-SaslAnswer
returns-in-SaslAnswer c = rw c.in-SaslAnswer.is c.answer_size-in-SaslAnswer.ensures

pub returns-in-Tune : goal.returns-in-Tune
returns-in-Tune c = rw c.in-Tune.is c.size_of_two-in-Tune.ensures

pub returns-in-TuneAnswer : goal.returns-in-TuneAnswer
returns-in-TuneAnswer c = rw c.in-TuneAnswer.is c.size_of_two-in-TuneAnswer.ensures

pub returns-in-OpenHost : goal.returns-in-OpenHost
returns-in-OpenHost c = rw c.in-OpenHost.is c.size_of_two-in-OpenHost.ensures

pub returns-in-HostAnswer : goal.returns-in-HostAnswer
returns-in-HostAnswer c = rw c.in-HostAnswer.is c.answer_size-in-HostAnswer.ensures

pub returns-in-Close : goal.returns-in-Close
returns-in-Close c = rw c.in-Close.is c.size_of_three-in-Close.ensures

pub returns-in-Heartbeat : goal.returns-in-Heartbeat
returns-in-Heartbeat c = rw c.in-Heartbeat.is (tt, refl, omega arith)

pub returns-in-Route : goal.returns-in-Route
returns-in-Route c = rw c.in-Route.is c.size_of_three-in-Route.ensures

pub returns-in-RouteAnswer : goal.returns-in-RouteAnswer
returns-in-RouteAnswer c = rw c.in-RouteAnswer.is c.answer_size-in-RouteAnswer.ensures

pub returns-in-Partitions : goal.returns-in-Partitions
returns-in-Partitions c = rw c.in-Partitions.is c.size_of_two-in-Partitions.ensures

pub returns-in-PartitionsAnswer : goal.returns-in-PartitionsAnswer
returns-in-PartitionsAnswer c = rw c.in-PartitionsAnswer.is c.answer_size-in-PartitionsAnswer.ensures

pub returns-in-ConsumerUpdate : goal.returns-in-ConsumerUpdate
returns-in-ConsumerUpdate c = rw c.in-ConsumerUpdate.is c.update_size.ensures

pub returns-in-UpdateAnswer : goal.returns-in-UpdateAnswer
returns-in-UpdateAnswer c = rw c.in-UpdateAnswer.is c.answer_size-in-UpdateAnswer.ensures

pub returns-in-ExchangeVersions : goal.returns-in-ExchangeVersions
returns-in-ExchangeVersions c = rw c.in-ExchangeVersions.is c.size_of_two-in-ExchangeVersions.ensures

pub returns-in-VersionsAnswer : goal.returns-in-VersionsAnswer
returns-in-VersionsAnswer c = rw c.in-VersionsAnswer.is c.answer_size-in-VersionsAnswer.ensures

pub returns-in-StreamStats : goal.returns-in-StreamStats
returns-in-StreamStats c = rw c.in-StreamStats.is c.size_of_two-in-StreamStats.ensures

pub returns-in-StatsAnswer : goal.returns-in-StatsAnswer
returns-in-StatsAnswer c = rw c.in-StatsAnswer.is c.answer_size-in-StatsAnswer.ensures

pub returns-in-CreateSuper : goal.returns-in-CreateSuper
returns-in-CreateSuper c = rw c.in-CreateSuper.is c.super_stream_size.ensures

pub returns-in-DeleteSuper : goal.returns-in-DeleteSuper
returns-in-DeleteSuper c = rw c.in-DeleteSuper.is c.size_of_two-in-DeleteSuper.ensures

pub returns-in-Plain : goal.returns-in-Plain
returns-in-Plain c = rw c.in-Plain.is c.size_of_two-in-Plain.ensures
