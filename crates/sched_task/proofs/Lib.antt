-- How a task's course of polls begins.
mod Courses
